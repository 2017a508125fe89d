-- The text of a ticket is ASCII.
use Rattle.std.proofs.Common.{◌≡◌, ℕ, ◌<◌, true, List, [], ◌∷◌, IsAscii, arith}
use Rattle.std.proofs.lemmas.Str.Ascii.{IsAscii-nil, IsAscii-cons}
use Rattle.std.proofs.lemmas.Str.{IsAscii-append}
use Rattle.std.proofs.lemmas.Fmt.{IsAscii-decimal}
use Rattle.std.proofs.lemmas.Bool.Decides.{nat_tests}
use Rattle.std.proofs.lemmas.Bool.{and_parts}
use Rattle.terms.specs.Term.{Term, variable, instrument, apply, Terms, nil, cons}
use Rattle.terms.specs.Signature.{Sig, op_of, word, all_words, Declared}
use Rattle.terms.specs.Ticket.{Ticket, Tickets}
use Rattle.terms.specs.Text.{text_of, arguments_text, others_text}
use Rattle.terms.proofs.Readable.{spelt_words}

word_ascii : (b : ℕ) → word b ≡ true → b < 128
word_ascii b e = grind (arith, nat_tests)

words_ascii : (bs : List ℕ) → all_words bs ≡ true → IsAscii bs
words_ascii [] e = IsAscii-nil
words_ascii (b ∷ bs) e = let (w, ws) = and_parts (word b) (all_words bs) e in IsAscii-cons b bs (word_ascii b w) (words_ascii bs ws)

module _ {sig : Sig} (good : Declared sig) where
  mutual
    pub ascii_text : (t : Term) → Ticket sig t → IsAscii (text_of sig t)
    ascii_text (variable x) h = absurd h
    ascii_text (instrument n) h = IsAscii-cons 35 _ (omega arith) (IsAscii-decimal n (omega arith))
    ascii_text (apply f ts) h = IsAscii-append (op_of sig f).name (arguments_text sig ts) (words_ascii (op_of sig f).name (spelt_words (op_of sig f).name (good.are_spelt f h.0))) (ascii_arguments ts h.2)

    ascii_arguments : (ts : Terms) → Tickets sig ts → IsAscii (arguments_text sig ts)
    ascii_arguments nil h = IsAscii-nil
    ascii_arguments (cons t ts) h = IsAscii-cons 40 _ (omega arith) (IsAscii-append (text_of sig t) (others_text sig ts) (ascii_text t h.0) (ascii_others ts h.1))

    ascii_others : (ts : Terms) → Tickets sig ts → IsAscii (others_text sig ts)
    ascii_others nil h = IsAscii-cons 41 [] (omega arith) IsAscii-nil
    ascii_others (cons t ts) h = IsAscii-cons 44 _ (omega arith) (IsAscii-append (text_of sig t) (others_text sig ts) (ascii_text t h.0) (ascii_others ts h.1))
