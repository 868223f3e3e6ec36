-- A drive grows by one call at its end. Assumes nothing.
use Rattle.std.proofs.Common.{◌≡◌, ◌+◌, List, [], ◌∷◌, ◌++◌, length, Ok, Err, sym, refl, ap, ◌∙◌, subst, arith}
use Rattle.std.proofs.lemmas.List.{length_push, append_assoc, append-nil}
use Rattle.plan.specs.Content.{Content}
use Rattle.board.specs.declared.calls.Call.{Call}
use Rattle.board.specs.declared.calls.Call.TheVariants.{Start, Stop, State, Tick}
use Rattle.board.specs.declared.calls.Answer.TheVariants as told
use Rattle.board.specs.Models.{Model, Alike, fresh}
use Rattle.board.specs.Drives.{Outcome, Moment, Drive, done, asked, idled, answered, Step, answered_by, Driven}
use Rattle.board.proofs.Keeping.{alike_path}

answered_push : (calls : List Call) (answers : List Outcome) (x : Call) (a : Outcome) → length answers ≡ length calls → answered_by (calls ++ x ∷ []) (answers ++ a ∷ []) ≡ answered_by calls answers ++ (x, a) ∷ []
answered_push [] [] x a e = refl
answered_push [] (b ∷ answers) x a e = absurd (omega (arith, e))
answered_push (y ∷ calls) [] x a e = absurd (omega (arith, e))
answered_push (y ∷ calls) (b ∷ answers) x a e = ap (λ l. (y, b) ∷ l) (answered_push calls answers x a (omega (arith, e)))

-- whatever goes on from here goes on from a new board
pub record Sofar (c : Content) (calls : List Call) (answers : List Outcome) (m : Model) : Type 0 where
  pub every : length answers ≡ length calls
  pub front : List Moment
  pub goes : (rest : List (Call × Outcome)) (later : List Moment) (z : Model) → Drive c m rest later z → Drive c fresh (answered_by calls answers ++ rest) (front ++ later) z

pub sofar_none : (c : Content) (m : Model) → Alike m fresh → Sofar c [] [] m
sofar_none c m a = record { every = refl; front = []; goes = λ rest later z d. subst (λ x. Drive c x rest later z) (alike_path a) d }

sofar_by : (c : Content) (calls : List Call) (answers : List Outcome) (m n : Model) (x : Call) (a : Outcome) (now : List Moment)
    → ((rest : List (Call × Outcome)) (later : List Moment) (z : Model) → Drive c n rest later z → Drive c m ((x, a) ∷ rest) (now ++ later) z)
    → Sofar c calls answers m → Sofar c (calls ++ x ∷ []) (answers ++ a ∷ []) n
sofar_by c calls answers m n x a now step h = record {
  every = length_push answers a ∙ ap (λ k. k + 1) h.every ∙ sym (length_push calls x);
  front = h.front ++ now;
  goes = λ rest later z d.
      let same : answered_by (calls ++ x ∷ []) (answers ++ a ∷ []) ++ rest ≡ answered_by calls answers ++ ((x, a) ∷ rest) = ap (λ l. l ++ rest) (answered_push calls answers x a h.every) ∙ append_assoc (answered_by calls answers) ((x, a) ∷ []) rest in
      rw (same, append_assoc h.front now later) (h.goes ((x, a) ∷ rest) (now ++ later) z (step rest later z d));
}

pub sofar_more : (c : Content) (calls : List Call) (answers : List Outcome) (m n : Model) (x : Call) (a : Outcome) → Step c m x a n → Sofar c calls answers m → Sofar c (calls ++ x ∷ []) (answers ++ a ∷ []) n
sofar_more c calls answers m n (Start t d) a s h = sofar_by c calls answers m n (Start t d) a [] (λ rest later z x. asked s x) h
sofar_more c calls answers m n (Stop t) a s h = sofar_by c calls answers m n (Stop t) a [] (λ rest later z x. asked s x) h
sofar_more c calls answers m n (State t) a s h = sofar_by c calls answers m n (State t) a [] (λ rest later z x. asked s x) h
sofar_more c calls answers m n Tick (Ok (told.Ticked a)) s h = sofar_by c calls answers m n Tick (Ok (told.Ticked a)) (record { board = m; front = s.1 } ∷ []) (λ rest later z x. answered s.0 s.2 x) h
sofar_more c calls answers m n Tick (Err why) s h = sofar_by c calls answers m n Tick (Err why) [] (λ rest later z x. idled s.0 s.1 x) h
sofar_more c calls answers m n Tick (Ok told.Done) s h = absurd s
sofar_more c calls answers m n Tick (Ok (told.State t)) s h = absurd s

pub sofar_all : (c : Content) (calls : List Call) (answers : List Outcome) (m : Model) → Sofar c calls answers m → Driven c calls answers
sofar_all c calls answers m h = record {
  every = h.every;
  moments = h.front ++ [];
  board = m;
  drive = subst (λ l. Drive c fresh l (h.front ++ []) m) (append-nil (answered_by calls answers)) (h.goes [] [] m done);
}
