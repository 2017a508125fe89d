-- What nodes answer.
use Rattle.std.proofs.Common.{◌≡◌, ℕ, suc, ◌+◌, ◌-◌, ◌<◌, ◌≤◌, List, get_or, Some, None, Option, ap, ◌∙◌, arith}
use Rattle.std.proofs.lemmas.Bool.{cond-true, cond-false, lt-ltb, le-ltb}
use Rattle.terms.specs.declared.node.Node.{Node}
use Rattle.terms.specs.Nodes.{vacant, along, node_answers}

-- one sibling on
pub along_next : (ns : List Node) (l : Option ℕ) (q n k : ℕ) → l ≡ Some q → k < n → along ns l (n - k) ≡ along ns (get_or ns q vacant).next (n - (k + 1))
along_next ns l q n k e h = ap (λ z. along ns z (n - k)) e ∙ ap (along ns (Some q)) (let m : n - k ≡ suc (n - (k + 1)) = omega arith in m)

pub argument_within : (ns : List Node) (p n : ℕ) → n < 3 → (node_answers ns).argument p n ≡ along ns (get_or ns p vacant).first n
argument_within ns p n h = cond-true _ _ _ (lt-ltb n 3 h)

pub argument_past : (ns : List Node) (p n : ℕ) → 3 ≤ n → (node_answers ns).argument p n ≡ None
argument_past ns p n h = cond-false _ _ _ (le-ltb n 3 h)
