-- Lists of calls that each follow the machine.
use Rattle.std.proofs.Common.{◌≡◌, refl, sym, subst, List, [], ◌∷◌, ◌++◌, ℕ}
use Rattle.machine.specs.Machine.{System, Machine, opened}
use Rattle.machine.specs.Calls.{Call, Answer, call, after, answers_to, buffers_of}
use Rattle.machine.specs.Following.{Session, no_calls, one_more}
use Rattle.machine.specs.Laws.{SessionsKeep, FollowersKeep}
use Rattle.machine.proofs.Whole.{convergent_keep}

-- one more call
after_one_more : (s : System) (m : Machine) (cs : List Call) (c : Call) → after s m (cs ++ c ∷ []) ≡ (call s (after s m cs) c).machine
after_one_more s m [] c = refl
after_one_more s m (d ∷ cs) c = after_one_more s (call s m d).machine cs c

module _ {B : Type 0} (Stands : B → Machine → Type 0) where
  follow : (s : System) {a b : B} {cs : List Call} {xs : List Answer} {ls : List (List ℕ)} (m : Machine) → Stands a m → Session Stands s a cs xs ls b → Stands b (after s m cs) × (xs ≡ answers_to s m cs) × (ls ≡ buffers_of s m cs)
  follow s m h no_calls = (h, refl, refl)
  follow s m h (one_more {c = c} f k) =
      let w = f m h in
      let (y, q, r) = follow s (call s m c).machine w.stands k in
      (y, (λ i. w.answers i ∷ q i), (λ i. w.writes i ∷ r i))

  pub sessions_keep : SessionsKeep Stands
  sessions_keep s declared convergent nodes entries a b cs xs ls h k =
      let (y, q, r) = follow s (opened nodes entries) h k in
      let (w, n) = convergent_keep s declared convergent nodes entries cs in
      record { stands = y; answers = q; writes = r; whole = w; pool = n }

  pub followers_keep : FollowersKeep Stands
  followers_keep s before now c x l f declared convergent nodes entries cs h =
      let w = f (after s (opened nodes entries) cs) h in
      (w, subst (Stands now) (sym (after_one_more s (opened nodes entries) cs c)) w.stands, (convergent_keep s declared convergent nodes entries (cs ++ c ∷ [])).0)
