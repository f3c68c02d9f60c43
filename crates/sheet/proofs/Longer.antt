-- Longer buffers, same word: what one call of Solve has in common with a call on the same sheet and longer buffers.
-- Assumes nothing.
use mathlib.Core.Path.{◌≡◌, refl, sym, ◌∙◌, ap, ap₂}
use mathlib.Core.Bool.{Bool, true, false, ◌&&◌, cond, false≢true}
use mathlib.Core.List.{List, [], ◌∷◌, ◌++◌, IsPrefix, get_last?}
use Prim.Native.Nat.{ℕ, ◌≤◌}
use native.Mathlib.Omega.{arith}
use lib.Dec.{ltb, leb}
use lib.ListN.{length}
use borrow.Author.Tests.{ltb-true, leb-true, leb-false, lt-ltb, le-leb}
use Rattle.formula.specs.Solve.{State, End, ended, stopped, Run, solve}
use Rattle.formula.specs.Trace.{Looser, solve_trace}
use Rattle.formula.proofs.Booleans.{and_parts}
use Rattle.formula.proofs.Longer.{last-solve_trace, solve_longer}
use Rattle.sheet.specs.Format.{Bytes, Format, sheet_length, fits}
use Rattle.sheet.specs.Sheet.{formula, sheet}
use Rattle.sheet.specs.Check.{Answer, refused, accepted, Test, test, answer, check_tests}
use Rattle.sheet.specs.Operations.{padded, tidy_tests, is_refused, is_ended, solved, solving, solve_call}
use Rattle.sheet.specs.Trace.{room, states, solve_states}
use Rattle.sheet.specs.Reliance.{Shows, no_state, last_state, SameEnd, Longer}
use Rattle.sheet.proofs.Refusals.{solved-not_refused}

-- tests of fit

-- also of two formats: the second takes as many nodes, and what is short enough for the first is for the second
pub fits_looser : (F G : Format) (m n : ℕ) → F.most_nodes ≤ G.most_nodes
    → ((v k : ℕ) → sheet_length F v k ≤ m → sheet_length G v k ≤ n) → Looser (fits F m) (fits G n)
unfolding fits
fits_looser F G m n nodes lengths v k h =
    let parts = and_parts (leb k F.most_nodes) (leb (sheet_length F v k) m) h in
    let few = leb-true k F.most_nodes parts.0 in
    let short = lengths v k (leb-true (sheet_length F v k) m parts.1) in
    ap₂ ◌&&◌ (le-leb k G.most_nodes (omega arith)) (le-leb (sheet_length G v k) n short)

fits_longer : (F : Format) (m n : ℕ) → m ≤ n → Looser (fits F m) (fits F n)
fits_longer F m n h = fits_looser F F m n (omega arith) (λ v k l. omega arith)

-- tests of a sheet and an output's length

abbrev Refuses : List Test → ℕ → ℕ → Type 1
Refuses ts n i = (A : Type 0) (a : A) → answer ts a ≡ refused n i

abbrev Accepts : List Test → Type 1
Accepts ts = (A : Type 0) (a : A) → answer ts a ≡ accepted a

-- a longer output: the same refusal, or an answer in place of 13
data Later (ts us : List Test) : Type 1 where
  both_refuse : (n i : ℕ) → Refuses ts n i → Refuses us n i → Later ts us
  then_accepts : Refuses ts 13 0 → Accepts us → Later ts us
  both_accept : Accepts ts → Accepts us → Later ts us

abbrev with_13 : List Test → Bool → List Test
with_13 ts fails = ts ++ (test fails 13 0 ∷ [])

later : (ts : List Test) (f f' : Bool) → (f' ≡ true → f ≡ true) → Later (with_13 ts f) (with_13 ts f')
unfolding answer
later [] true true h = both_refuse 13 0 (λ A a. refl) (λ A a. refl)
later [] true false h = then_accepts (λ A a. refl) (λ A a. refl)
later [] false true h = absurd (false≢true (h refl))
later [] false false h = both_accept (λ A a. refl) (λ A a. refl)
later (t ∷ ts) f f' h = by t.fails refl (later ts f f' h)
  where
    lead : (g : Bool) {m : Bool} → t.fails ≡ m → (A : Type 0) (a : A)
        → answer (with_13 (t ∷ ts) g) a ≡ cond m (refused t.number t.place) (answer (with_13 ts g) a)
    lead g e A a = ap (λ (m : Bool). cond m (refused t.number t.place) (answer (with_13 ts g) a)) e

    passed : t.fails ≡ false → Later (with_13 ts f) (with_13 ts f') → Later (with_13 (t ∷ ts) f) (with_13 (t ∷ ts) f')
    passed e (both_refuse n i r r') = both_refuse n i (λ A a. lead f e A a ∙ r A a) (λ A a. lead f' e A a ∙ r' A a)
    passed e (then_accepts r r') = then_accepts (λ A a. lead f e A a ∙ r A a) (λ A a. lead f' e A a ∙ r' A a)
    passed e (both_accept r r') = both_accept (λ A a. lead f e A a ∙ r A a) (λ A a. lead f' e A a ∙ r' A a)

    by : (m : Bool) → t.fails ≡ m → Later (with_13 ts f) (with_13 ts f') → Later (with_13 (t ∷ ts) f) (with_13 (t ∷ ts) f')
    by true e l = both_refuse t.number t.place (lead f e) (lead f' e)
    by false e l = passed e l

later_tests : (F : Format) (b : Bytes) (m n : ℕ) → m ≤ n → Later (tidy_tests F b m) (tidy_tests F b n)
unfolding tidy_tests
later_tests F b m n h =
    later (check_tests F b) (ltb m (length b)) (ltb n (length b)) (λ e. lt-ltb m (length b) (omega (arith, ltb-true n (length b) e)))

-- one call

ended_run : (e : End) (s : State) {v : Bool} {settles expands : ℕ} → solved e s ≡ is_ended v settles expands → e ≡ ended v
unfolding solved
ended_run (ended w) s {v} k = let same : w ≡ v = cc in ap ended same
ended_run (stopped x) s k = let z : ◌≡◌ {A = ℕ} 0 1 = cc in absurd (omega arith)

module _ (F : Format) (b first second : Bytes) where
  abbrev tests : List Test
  tests = tidy_tests F b (room first second)

  abbrev run : Run
  run = solve (fits F (room first second)) (formula F b)

  refused_call : {n i : ℕ} → Refuses tests n i
      → ((solve_call F b first second).answer ≡ is_refused n i) × (solve_states F b first second ≡ [])
  unfolding solve_call solving solve_states states
  refused_call r = (ap (λ (a : Answer Run). (solving F first second a).answer) (r Run run), ap states (r (List State) _))

  record Accepted : Type 0 where
    answers : (solve_call F b first second).answer ≡ solved run.end run.state
    in_first : (solve_call F b first second).first ≡ padded (length first) (sheet F run.state.formula)
    its_states : solve_states F b first second ≡ solve_trace (fits F (room first second)) (formula F b)

  accepted_call : Accepts tests → Accepted
  unfolding solve_call solving solve_states states
  accepted_call r =
      record {
        answers = ap (λ (a : Answer Run). (solving F first second a).answer) (r Run run);
        in_first = ap (λ (a : Answer Run). (solving F first second a).first) (r Run run);
        its_states = ap states (r (List State) _);
      }

  pub solve_shows : Shows F b first second
  solve_shows = by (later_tests F b (room first second) (room first second) (omega arith))
    where
      by : Later tests tests → Shows F b first second
      by (both_refuse n i r r') = no_state n i (refused_call r).0 (refused_call r).1
      by (then_accepts r r') = no_state 13 0 (refused_call r).0 (refused_call r).1
      by (both_accept r r') =
          let c = accepted_call r in
          last_state run.end run.state c.answers c.in_first
          (ap get_last? c.its_states ∙ last-solve_trace (fits F (room first second)) (formula F b))

-- two calls on a sheet

module _ (F : Format) (b first second first' second' : Bytes) where
  -- it is the shorter buffer of each pair that counts
  pub longer_room : room first second ≤ room first' second' → Longer F b first second first' second'
  longer_room h = by (later_tests F b (room first second) (room first' second') h)
    where
      -- no state comes first, and no verdict stays
      refused_before : {n i : ℕ} → Refuses (tests F b first second) n i
          → IsPrefix (solve_states F b first second) (solve_states F b first' second')
      refused_before r =
          (solve_states F b first' second', ap (λ (l : List State). l ++ solve_states F b first' second') (refused_call F b first second r).1)

      never_ended : {n i : ℕ} → Refuses (tests F b first second) n i → (v : Bool) (settles expands : ℕ)
          → (solve_call F b first second).answer ≡ is_ended v settles expands → SameEnd F b first second first' second' v settles expands
      never_ended r v settles expands e =
          let k = sym (refused_call F b first second r).0 ∙ e in
          let z : ◌≡◌ {A = ℕ} 0 1 = cc in
          absurd (omega arith)

      accepted-after : Accepts (tests F b first' second') → (n i : ℕ)
          → (solve_call F b first' second').answer ≡ is_refused n i → (solve_call F b first second).answer ≡ is_refused n i
      accepted-after r n i e =
          absurd (solved-not_refused _ _ (sym (accepted_call F b first' second' r).answers ∙ e))

      by : Later (tests F b first second) (tests F b first' second') → Longer F b first second first' second'
      by (both_refuse n i r r') =
          let same = (refused_call F b first second r).0 ∙ sym (refused_call F b first' second' r').0 in
          record {
            begins = refused_before r;
            on_ended = never_ended r;
            on_refused = λ m j e k. sym same ∙ e;
            was_refused = λ m j e. same ∙ e;
          }
      by (then_accepts r r') =
          record {
            begins = refused_before r;
            on_ended = never_ended r;
            on_refused = λ m j e k. let a = sym (refused_call F b first second r).0 ∙ e in let z : m ≡ 13 = cc in absurd (k z);
            was_refused = accepted-after r';
          }
      by (both_accept r r') =
          let c = accepted_call F b first second r in
          let c' = accepted_call F b first' second' r' in
          let l = solve_longer _ _ (fits_longer F (room first second) (room first' second') h) (formula F b) in
          record {
            begins = (l.begins.0, ap (λ (s : List State). s ++ l.begins.0) c.its_states ∙ l.begins.1 ∙ sym c'.its_states);
            on_ended =
                λ v settles expands e. (
                let same = l.on_ended v (ended_run _ _ (sym c.answers ∙ e)) in
                record {
                  same_answer = c'.answers ∙ ap (λ (u : Run). solved u.end u.state) same.0 ∙ sym c.answers ∙ e;
                  same_states = c'.its_states ∙ same.1 ∙ sym c.its_states;
                  reached = (run F b first second).state.formula;
                  in_first = c.in_first;
                  in_first' = c'.in_first ∙ ap (λ (u : Run). padded (length first') (sheet F u.state.formula)) same.0;
                });
            on_refused = λ n i e k. absurd (solved-not_refused _ _ (sym c.answers ∙ e));
            was_refused = accepted-after r';
          }

  pub longer_buffers : length first ≤ length first' → length second ≤ length second' → Longer F b first second first' second'
  longer_buffers h k = longer_room (omega arith)

-- whichever buffers two calls on a sheet are lent, if both end they have the same verdict and the same counts
pub both_ended : (F : Format) (b first second first' second' : Bytes) {v v' : Bool} {settles settles' expands expands' : ℕ}
    → (solve_call F b first second).answer ≡ is_ended v settles expands
    → (solve_call F b first' second').answer ≡ is_ended v' settles' expands' → is_ended v settles expands ≡ is_ended v' settles' expands'
both_ended F b first second first' second' {v} {v'} {settles} {settles'} {expands} {expands'} e e' =
    by (leb (room first second) (room first' second')) refl
  where
    by : (m : Bool) → leb (room first second) (room first' second') ≡ m → is_ended v settles expands ≡ is_ended v' settles' expands'
    by true h =
        sym ((longer_room F b first second first' second' (leb-true (room first second) (room first' second') h)
        ).on_ended v settles expands e).same_answer ∙ e'
    by false h =
        let less = leb-false (room first second) (room first' second') h in
        sym e ∙ ((longer_room F b first' second' first second (omega arith)).on_ended v' settles' expands' e').same_answer
