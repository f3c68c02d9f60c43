-- One turn: the record filled and the sheet held after it, over lists.
-- Assumes nothing.
use mathlib.Core.Path.{◌≡◌, sym, ap, ap₂, ◌∙◌}
use mathlib.Core.List.{List, ◌++◌}
use Prim.Native.Nat.{ℕ, suc, ◌≤◌, ◌<◌, min}
use Rattle.std.specs.Prelude.{Result, Ok, Err}
use native.Mathlib.Omega.{arith}
use lib.ListN.{length, get_or, take, drop, replicate, length-replicate, length-append}
use lib.Seq.{length-take-le, take-append-le, take-append_seam}
use Rattle.sheet.specs.Format.{Bytes, Format}
use Rattle.sheet.specs.Check.{Answer, accepted}
use Rattle.sheet.specs.Operations as operations
use Rattle.sheet.specs.Calls.{perform, perform_all, Held, held_after, held}
use Rattle.sheet.specs.Steps.{Operation, Step as Record, single, call_of, calls, after, fill, filled, given, reached}
use Rattle.sheet.proofs.Steps.{fill_at, reached-next, same_answer, same_held, accepted_short}
use Rattle.rows.specs.declared.refusals.Refusal.{Refusal}
use Rattle.checking.specs.Answers.{written_answer}
use Rattle.step_list.specs.declared.Step.{Step}
use Rattle.step_list.specs.declared.Turn.{Turn}
use Rattle.step_list.specs.Inner.Records.{operation_of, step_of}
use Rattle.step_list.specs.Inner.Turns.{room, Kept, Keeps, Took}

-- a sheet copied to the front of a buffer
pub copied-front : (n : ℕ) (first second : Bytes) → n ≤ length second → {first' : Bytes}
    → first' ≡ (take n second ++ drop (length (take n second)) first) → take n first' ≡ take n second
copied-front n first second l {first'} e =
    ap (λ (k : ℕ). take k first') (sym (length-take-le n second l)) ∙ ap (take (length (take n second))) e ∙
    take-append_seam (take n second) (drop (length (take n second)) first)

-- the single call of a turn, with the front of the second buffer as its output

module _ (F : Format) (s : Step) (first second : Bytes) (held n : ℕ) (n-is : n ≡ room first second) where
  abbrev o : Operation
  o = operation_of s.operation

  abbrev x : ℕ
  x = s.variable

  abbrev out : Bytes
  out = take n second

  abbrev b : Bytes
  b = take held first

  abbrev call : operations.Written
  call = perform F (single o x out) b

  room_first : n ≤ length first
  room_first = omega (arith, n-is)

  room_second : n ≤ length second
  room_second = omega (arith, n-is)

  length_out : length out ≡ length (replicate {A = ℕ} n 0)
  length_out = length-take-le n second room_second ∙ sym (length-replicate n 0)

  module _ (a : Result ℕ Refusal) {out' second' : Bytes} (does : ◌≡◌ {A = operations.Written} (record { answer = written_answer a; output = out' }) call)
      (kept : length out' ≡ length out) (second_is : second' ≡ (out' ++ drop n second)) where
    told : written_answer a ≡ call.answer
    told = ap (λ (w : operations.Written). w.answer) does

    wrote : out' ≡ call.output
    wrote = ap (λ (w : operations.Written). w.output) does

    short : (m : ℕ) → accepted m ≡ call.answer → m ≤ n
    short m e =
        omega (
          arith,
          accepted_short F o x out b m (sym e) (sym (ap length wrote) ∙ kept),
          length-take-le n second room_second,
        )

    -- an accepted sheet fits both buffers
    pub can-keep : Kept first second' a
    can-keep = by a told
      where
        by : (c : Result ℕ Refusal) → written_answer c ≡ call.answer → Kept first second' c
        by (Err r) e = tt
        by (Ok m) e =
            let l = short m e in (
              omega (arith, room_first),
              omega (arith, ap length second_is ∙ length-append out' (drop n second), kept, length-take-le n second room_second),
            )

    answered : step_of (record { operation = s.operation; variable = x; answer = a }) ≡ fill F (room first second) (step_of s) b
    unfolding fill
    answered =
        ap (λ (w : Answer ℕ). record { operation = o; variable = x; answer = w }) (told ∙ same_answer F o x out (replicate n 0) length_out b) ∙
        ap (λ (m : ℕ). fill F m (step_of s) b) n-is

    module _ (held' : ℕ) (first' : Bytes) (k : Keeps held first second' first' held' a) where
      held_then : take held' first' ≡ (after F (call_of (room first second) (step_of s)) (given b)).sheet
      unfolding after held_after
      held_then =
          by a told k ∙ ap (λ (h : Held). h.sheet) (same_held F o x out (replicate n 0) length_out (given b)) ∙
          ap (λ (m : ℕ). (after F (call_of m (step_of s)) (given b)).sheet) n-is
        where
          by : (c : Result ℕ Refusal) → written_answer c ≡ call.answer → Keeps held first second' first' held' c
              → take held' first' ≡ (after F (single o x out) (given b)).sheet
          by (Err r) e z =
              ap₂ (λ (i : ℕ) (l : Bytes). take i l) z.0 z.1 ∙
              ap (λ (w : Answer ℕ). (held_after (given b) w call.output).sheet) e
          by (Ok m) e z =
              let l : m ≤ length out' = omega (arith, short m e, kept, length-take-le n second room_second) in
              ap (λ (i : ℕ). take i first') z.0 ∙ z.1 ∙ ap (take m) second_is ∙ take-append-le m out' (drop n second) l ∙ ap (take m) wrote ∙
              ap (λ (w : Answer ℕ). (held_after (given b) w call.output).sheet) e

      held_short : held ≤ room first second → held' ≤ room first second
      held_short l = by a told k
        where
          by : (c : Result ℕ Refusal) → written_answer c ≡ call.answer → Keeps held first second' first' held' c → held' ≤ room first second
          by (Err r) e z = omega (arith, z.0)
          by (Ok m) e z = omega (arith, z.0, short m e, n-is)

      pub took : held ≤ room first second
          → Took F s held first second first' (record { step = record { operation = s.operation; variable = x; answer = a }; held = held' })
      took l = record { fills = answered; sheet_held = held_then; is_short = held_short l }

-- the turns, one after another

-- i turns are taken: the sheet held before step i stands at the front of the first buffer, and no turn writes past the shorter one
pub record Going (F : Format) (n : ℕ) (steps : List Record) (b : Bytes) (i held : ℕ) (first second : Bytes) : Type 0 where
  pub sheet_held : take held first ≡ reached F n steps b i
  pub is_short : held ≤ n
  pub same_room : room first second ≡ n

module _ (F : Format) (n : ℕ) (steps : List Record) (b : Bytes) where
  pub going_first : {held : ℕ} {first second : Bytes} → take held first ≡ b → held ≤ n → room first second ≡ n
      → Going F n steps b 0 held first second
  unfolding reached held calls perform_all
  going_first e l r = record { sheet_held = e; is_short = l; same_room = r }

  -- the turn of record i by a step s of the same operation and variable
  module _ {i h : ℕ} {first second : Bytes} (g : Going F n steps b i h first second) (inside : i < length steps) (d : Record) (s : Step)
      (eo : operation_of s.operation ≡ (get_or steps i d).operation) (ex : s.variable ≡ (get_or steps i d).variable)
      {first' : Bytes} {t : Turn} (turn : Took F s h first second first' t) where
    same-call : call_of n (step_of s) ≡ call_of n (get_or steps i d)
    same-call = ap₂ (λ o x. single o x (replicate n 0)) eo ex

    pub filled-here : step_of t.step ≡ get_or (filled F n steps (given b)) i d
    unfolding fill
    filled-here =
        turn.fills ∙ ap₂ (λ m c. fill F m (step_of s) c) g.same_room g.sheet_held ∙
        ap₂ (λ o x. record { operation = o; variable = x; answer = (perform F (single o x (replicate n 0)) (reached F n steps b i)).answer }) eo ex ∙
        sym (fill_at F n steps b i d inside)

    pub going_next : {j : ℕ} {second' : Bytes} → j ≡ suc i → length first' ≡ length first → length second' ≡ length second
        → Going F n steps b j t.held first' second'
    going_next next l₁ l₂ =
        record {
          sheet_held =
              turn.sheet_held ∙ ap₂ (λ m c. (after F (call_of m (step_of s)) (given c)).sheet) g.same_room g.sheet_held ∙
              ap (λ c. (after F c (given (reached F n steps b i))).sheet) same-call ∙ sym (reached-next F n steps b i d inside) ∙
              ap (reached F n steps b) (sym next);
          is_short = omega (arith, turn.is_short, g.same_room);
          same_room = ap₂ (λ p q. min p q) l₁ l₂ ∙ g.same_room;
        }
