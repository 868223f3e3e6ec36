-- The words of a line of bytes. Assumes nothing.
use Rattle.std.specs.Prelude.{ℕ, Bool, cond, ◌&&◌, ◌||◌, ◌≡◌, List, [], ◌∷◌, ◌++◌, ◌==◌, nat_le, Option, Some, None, ⊤}
use Rattle.std.specs.Borrow.{Bor}

-- A byte is white space: a space, or one of the five from tab to carriage return.
abbrev pub blank : ℕ → Bool
blank b = b == 32 || (nat_le 9 b && nat_le b 13)

-- The words that begin with w, which is no word if it has no byte.
abbrev pub before : List ℕ → List (List ℕ) → List (List ℕ)
before [] ws = ws
before (b ∷ w) ws = (b ∷ w) ∷ ws

-- The words of a line that goes on after the bytes w of a word: white space ends the word, any other byte belongs to it.
abbrev pub words_after : List ℕ → List ℕ → List (List ℕ)
words_after w [] = before w []
words_after w (b ∷ bs) = cond (blank b) (before w (words_after [] bs)) (words_after (w ++ b ∷ []) bs)

-- The words of a line: its maximal runs of bytes that are no white space, in order.
abbrev pub words_of : List ℕ → List (List ℕ)
words_of line = words_after [] line

-- Words begin with those told, one after another, and none is told where no more are left. What is told after that is left open.
abbrev pub BeginsWith : List (List ℕ) → List (Option (Bor (List ℕ))) → Type 0
BeginsWith words [] = ⊤
BeginsWith words (None ∷ told) = words ≡ []
BeginsWith [] (Some w ∷ told) = ⊥
BeginsWith (word ∷ words) (Some w ∷ told) = (w.now ≡ word) × BeginsWith words told
