-- A call that is no tick keeps what every board keeps. Assumes nothing.
use Rattle.std.proofs.Common.{◌≡◌, Some, None, Option, sym, refl, subst}
use Rattle.plan.specs.Content.{Content}
use Rattle.board.specs.declared.calls.Call.{Call}
use Rattle.board.specs.declared.calls.Call.TheVariants.{Start, Stop, State, Tick}
use Rattle.board.specs.declared.calls.CallRefusal.{CallRefusal}
use Rattle.board.specs.declared.calls.Answer.{Answer}
use Rattle.board.specs.Drives.{Outcome, Did, Asked}
use Rattle.board.specs.Models.{Model, start_refusal, stop_refusal, state_refusal, started, stopped}
use Rattle.board.specs.Soundness.{Sound}
use Rattle.board.proofs.Keeping.{alike_path, sound_start, sound_stop}

did_sound : (c : Content) (o : Option CallRefusal) (m after n : Model) (y : Answer) (a : Outcome) → Sound c m → (o ≡ None → Sound c after) → Did o m y after a n → Sound c n
did_sound c None m after n y a h s d = subst (Sound c) (sym (alike_path d.1)) (s refl)
did_sound c (Some why) m after n y a h s d = subst (Sound c) (sym (alike_path d.1)) h

pub asked_sound : (c : Content) (m n : Model) (call : Call) (a : Outcome) → Sound c m → Asked c m call a n → Sound c n
asked_sound c m n (Start t d) a h x = did_sound c (start_refusal c m t d) m (started c m t d) n _ a h (sound_start c m t d h) x
asked_sound c m n (Stop t) a h x = did_sound c (stop_refusal c m t) m (stopped m t) n _ a h (sound_stop c m t h) x
asked_sound c m n (State t) a h x = did_sound c (state_refusal c t) m m n _ a h (λ _. h) x
asked_sound c m n Tick a h x = absurd x
