-- What the sides of rules hold.
use Rattle.terms.specs.Term.{Term}
use Rattle.terms.specs.Nodes.{node_answers}
use Rattle.terms.specs.Layout.{in_use}
use Rattle.terms.specs.View.{Answers}
use Rattle.sheet.specs.Terms.{term_in}
use Rattle.sheet.specs.declared.side.Side.{Side}

abbrev pub side_of : Side → Term
side_of s = term_in s.nodes

-- what a side answers as a view
abbrev pub side_answers : Side → Answers
side_answers s = node_answers (in_use s.nodes)
