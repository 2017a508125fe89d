-- What an interpretation means.
use Rattle.orders.specs.declared.linear.Interpretation.{Interpretation}
use Rattle.orders.specs.Linear.{Linear, linear_of}

abbrev pub meaning : Interpretation → Linear
meaning o = linear_of o.weighing
