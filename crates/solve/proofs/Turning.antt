-- A turn of Solve's loop: the run from the start is the run from where it stands.
-- Assumes nothing.
use mathlib.Core.Path.{◌≡◌, refl, sym, ap, ap₂, ◌∙◌}
use Prim.Native.Nat.{ℕ, suc, ◌^◌, ◌<◌}
use native.Mathlib.Omega.{arith}
use lib.ListN.{length}
use Rattle.formula.specs.Solve.{State as Reached, End, ended, stopped, halt, next, Fits, step, go_on, run}
use Rattle.sheet.specs.Format.{Bytes, fits}
use Rattle.sheet.specs.Sheet.{sheet}
use Rattle.sheet.specs.Operations.{padded, solved}
use Rattle.rows.specs.Formats.{format_of}
use Rattle.rows.specs.Layouts.{format_in}
use Rattle.rows.specs.declared.Format.{Format}
use Rattle.solve.specs.declared.State.{State}
use Rattle.solve.specs.declared.Verdict.{Verdict}
use Rattle.solve.specs.declared.Solved.TheVariants.{Stopped, Ended}
use Rattle.solve.specs.declared.step.Step.TheVariants as taken
use Rattle.solve.specs.Answers.{verdict_of, solved_answer}
use Rattle.solve.specs.Inner.Running.{Held, reached, begun, fits_in, Stepped, run_from, answered, shown, Goes}

pub run_halt : (fits : Fits) (n : ℕ) (s : Reached) (e : End) → step fits s ≡ halt e → run fits (suc n) s ≡ record { end = e; state = s }
unfolding run go_on
run_halt fits n s e h = rw h

pub run-next : (fits : Fits) (n : ℕ) (s t : Reached) → step fits s ≡ next t → run fits (suc n) s ≡ run fits n t
unfolding run go_on
run-next fits n s t h = rw h

-- begun in state s₀ with the sheet in b₀, it stands in state s with the sheet in b
pub record Turn (room : ℕ) (s₀ s : State) (b₀ b : Bytes) : Type 0 where
  pub held : Held room s.sheet b
  pub same_run : run_from room s₀ b₀ ≡ run_from room s b
  pub few : begun s < 2 ^ 32
  pub same_length : length b ≡ length b₀
  pub same_format : s.sheet.format ≡ s₀.sheet.format

pub turn_first : {room : ℕ} {s : State} {b : Bytes} → Held room s.sheet b → begun s < 2 ^ 32 → Turn room s s b b
turn_first h l = record { held = h; same_run = refl; few = l; same_length = refl; same_format = refl }

module _ {room : ℕ} {s₀ s : State} {b₀ b : Bytes} (u : Turn room s₀ s b₀ b) where
  pub turn-next : {t : State} (c : Bytes) {new : Bytes} → Stepped room s b c new c (taken.Next t) → length new ≡ length b → Turn room s₀ t b₀ new
  turn-next {t} c {new} k l =
      record {
        held = k.1;
        same_run =
            u.same_run ∙
            run-next (fits_in s room) s.sheet.variables (reached s b) (reached t new) k.0 ∙
            ap₂ (λ n (f : Format). run (fits (format_of f) room) n (reached t new)) k.2 (sym k.4);
        few = omega (arith, k.3, u.few);
        same_length = l ∙ u.same_length;
        same_format = k.4 ∙ u.same_format;
      }

  halted : (e : End) → step (fits_in s room) (reached s b) ≡ halt e → run_from room s₀ b₀ ≡ record { end = e; state = reached s b }
  halted e h = u.same_run ∙ run_halt (fits_in s room) s.sheet.variables (reached s b) e h

  -- the buffer shows the formula reached
  pub still_shown : {new : Bytes} (e : End) → step (fits_in s room) (reached s b) ≡ halt e → new ≡ b
      → new ≡ shown (format_in s₀.sheet) (length b₀) (run_from room s₀ b₀)
  still_shown e h same =
      same ∙ u.held.bytes_are ∙
      ap₂ (λ k (f : Format). padded k (sheet (format_of f) (reached s b).formula)) u.same_length u.same_format ∙
      ap (shown (format_in s₀.sheet) (length b₀)) (sym (halted e h))

  pub turn_ended : (v : Verdict) {c new other : Bytes} → Stepped room s b c new other (taken.Ended v)
      → Goes room s₀ b₀ new (solved_answer (Ended v s.settled s.expanded))
  unfolding solved
  turn_ended v k =
      let e = ended (verdict_of v) in
      record { answers = ap answered (sym (halted e k.0)); shows = still_shown e k.0 k.1 }

  pub turn_stopped : (x : ℕ) {c new other : Bytes} → Stepped room s b c new other (taken.Stopped x)
      → Goes room s₀ b₀ new (solved_answer (Stopped x s.settled s.expanded))
  unfolding solved
  turn_stopped x k =
      record { answers = ap answered (sym (halted (stopped x) k.0)); shows = still_shown (stopped x) k.0 k.1 }
