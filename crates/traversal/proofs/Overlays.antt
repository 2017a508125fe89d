-- Bytes written into a buffer, as far as it reaches.
use Rattle.std.proofs.Common.{◌≡◌, ℕ, suc, ◌+◌, ◌≤◌, List, [], ◌∷◌, ◌++◌, length, drop, set, sym, refl, ap, ◌∙◌, subst, add-zero, arith, length-append}
use Rattle.std.proofs.lemmas.List.{append_assoc, set_at, length_push}
use Rattle.traversal.specs.declared.write.writer.Writer.{Writer}
use Rattle.traversal.specs.Bytes.{over, Lays, Puts}

pub over_append : (b : List ℕ) (i : ℕ) (xs ys : List ℕ) → over b i (xs ++ ys) ≡ over (over b i xs) (i + length xs) ys
over_append b i [] ys = ap (λ k. over b k ys) (sym (add-zero i))
over_append b i (x ∷ xs) ys =
    over_append (set b i x) (suc i) xs ys
    ∙ ap (λ k. over (over (set b i x) (suc i) xs) k ys) (let e : suc i + length xs ≡ i + suc (length xs) = omega arith in e)

pub lays_none : (b : List ℕ) (i : ℕ) → Lays [] b i b i
lays_none b i = record { buffer = refl; end = sym (add-zero i) }

-- one text after another
pub lays_both : {xs ys b c d : List ℕ} {i k r : ℕ} → Lays xs b i c k → Lays ys c k d r → Lays (xs ++ ys) b i d r
lays_both {xs} {ys} {b} {c} {d} {i} {k} {r} p q = record {
  buffer =
      q.buffer
      ∙ ap (λ l. over l k ys) p.buffer
      ∙ ap (λ n. over (over b i xs) n ys) p.end
      ∙ sym (over_append b i xs ys);
  end = omega (arith, p.end, q.end, length-append xs ys);
}

-- where the buffer is long enough, the bytes stand behind what is there already
over_behind : (p b w : List ℕ) (n : ℕ) → length p ≡ n → length w ≤ length b → over (p ++ b) n w ≡ p ++ (w ++ drop (length w) b)
over_behind p b [] n e h = refl
over_behind p [] (x ∷ w) n e h = absurd (let z : ⊥ = omega arith in z)
over_behind p (y ∷ b) (x ∷ w) n e h =
    ap (λ l. over l (suc n) w) (set_at p y b x n e ∙ sym (append_assoc p (x ∷ []) b))
    ∙ over_behind (p ++ x ∷ []) b w (suc n) (omega (arith, length_push p x)) (omega arith)
    ∙ append_assoc p (x ∷ []) (w ++ drop (length w) b)

pub over_front : (b w : List ℕ) → length w ≤ length b → over b 0 w ≡ w ++ drop (length w) b
over_front b w h = over_behind [] b w 0 refl h

pub puts_none : (w : Writer) → Puts [] w w
puts_none w = record { lays = lays_none w.buffer.now w.len; same_buffer = refl }

pub puts_both : {xs ys : List ℕ} {u v w : Writer} → Puts xs u v → Puts ys v w → Puts (xs ++ ys) u w
puts_both p q = record { lays = lays_both p.lays q.lays; same_buffer = q.same_buffer ∙ p.same_buffer }

pub puts_as : {xs ys : List ℕ} {u w : Writer} → xs ≡ ys → Puts xs u w → Puts ys u w
puts_as {u = u} {w = w} e p = subst (λ l. Puts l u w) e p
