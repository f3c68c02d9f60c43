-- Claim's answer and output from what its parts decide and write.
-- Assumes nothing.
use mathlib.Core.Path.{◌≡◌, refl, sym, ap, ap₂, ◌∙◌, subst}
use mathlib.Core.Bool.{Bool, true, false}
use mathlib.Core.List.{List}
use Prim.Native.Nat.{ℕ, suc, ◌+◌, ◌*◌, ◌-◌, ◌≤◌}
use native.Mathlib.Omega.{arith}
use lib.ListN.{length, take, length-take}
use Rattle.formula.specs.Tree.{Quantifier, dual, Formula, rows}
use Rattle.formula.specs.Strategy.{Pairs, is_covering, in_order}
use Rattle.formula.specs.Claim.{claim}
use Rattle.formula.proofs.Strategy.Claim.{length-all_rows}
use Rattle.sheet.specs.Format as sheets
use Rattle.sheet.specs.Format.{Bytes, sheet_length}
use Rattle.sheet.specs.Sheet.{formula, sheet}
use Rattle.sheet.specs.Check.{refused, check}
use Rattle.sheet.specs.Operations.{padded}
use Rattle.sheet.specs.Strategy.{fits_output, Claimed, claim_refused, claim_written, Claiming, claim_call}
use Rattle.sheet.proofs.RoundTrip.{length-sheet}
use Rattle.sheet.proofs.Accepted.{accepted_variables}
use Rattle.sheet.proofs.Strategy.Winning.{fits-rows, fits-length}
use Rattle.sheet.proofs.Strategy.Claim.{claim_keeps, first_refused, second_refused, room_refused, claim_accepted, rows-claimed}
use Rattle.rows.specs.Formats.{format_of}
use Rattle.rows.specs.Layouts.{format_in}
use Rattle.rows.specs.Formulas.{prefix_in}
use Rattle.rows.specs.declared.Layout.{Layout}
use Rattle.rows.specs.declared.Format.{Format}
use Rattle.rows.proofs.Limits.{limits}
use Rattle.checking.specs.Sheets.{Sheet}
use Rattle.checking.proofs.CheckedSheets.{accepted_as, sheet_checked, sheet_format, sheet-formula_in, sheet_right}
use Rattle.pair_tests.specs.Pairs.{side, pairs_in, Paired}
use Rattle.pair_tests.proofs.Stands.{counted}
use Rattle.std.specs.Prelude.{Result, Ok, Err}
use Rattle.std.specs.Result.{MatchResult, IfOk}
use Rattle.std.proofs.lemmas.Result.{IfOk-at_ok}
use Rattle.rows.specs.Refusals.{number_of, place_of}
use Rattle.rows.specs.declared.refusals.Refusal.{Refusal}
use Rattle.checking.specs.Answers.{checked_answer}
use Rattle.claim.specs.declared.ClaimRefusal.{ClaimRefusal}
use Rattle.claim.specs.declared.write.Strategy.{Strategy}
use Rattle.claim.specs.Inner.Plans.{ClaimPlanned, ClaimPlans, ClaimFitting}
use Rattle.claim.specs.Inner.Writing.{claimed, Claimable}
use Rattle.claim.proofs.Deciding.{sheet_prefix, sheet_source}

-- a refused call alters no byte
pub refused_call : (F : sheets.Format) (b : Bytes) (q : Quantifier) (d out : Bytes) (which n i : ℕ)
    → (claim_call F b q d out).answer ≡ claim_refused which n i → record { answer = claim_refused which n i; output = out } ≡ claim_call F b q d out
refused_call F b q d out which n i e =
    ap₂ (λ (a : Claimed) (o : Bytes). record { answer = a; output = o }) (sym e) (sym (claim_keeps F b q d out which n i e))

module _ {b : Bytes} {s : Layout} {d : Bytes} {r : Strategy} {cuts : List ℕ} (h : ClaimFitting b s d r cuts) where
  abbrev F : sheets.Format
  F = format_of s.format

  abbrev q : Quantifier
  q = side r.exists

  abbrev g : Pairs
  g = pairs_in r.layout d

  abbrev new : Formula
  new = claim q (formula F b) g

  new_is : claimed b s d r ≡ new
  unfolding claimed
  new_is = ap (λ (f : Formula). claim q f g) (sheet-formula_in h.first)

  nodes_are : rows new.matrix ≡ s.nodes + 2 * r.layout.nodes - 1
  nodes_are =
      omega (
        arith,
        rows-claimed F b q d g h.first.tests_pass h.second.tests_pass h.are_read,
        (sheet_right h.first).nodes_are,
        (sheet_right h.second).nodes_are,
      )

  variables_are : length new.prefix ≡ s.variables
  unfolding claim
  variables_are =
      length-all_rows (dual q) (formula F b).prefix ∙ accepted_variables F b h.first.tests_pass ∙ sym (sheet_right h.first).variables_are

  prefix_is : prefix_in r.layout d ≡ (formula F b).prefix
  prefix_is = sheet_prefix h.second ∙ h.same_prefix

  covering : is_covering q (formula F b).prefix g ≡ true
  covering = ap (λ p. is_covering q p g) (sym prefix_is) ∙ h.passed.covering

  ordered : in_order q (formula F b).prefix g ≡ true
  ordered = ap (λ p. in_order q p g) (sym prefix_is) ∙ h.passed.ordered

  module _ (out : Bytes) {m : Bool} (is : m ≡ sheets.fits F (length out) s.variables (s.nodes + 2 * r.layout.nodes - 1)) where
    fit_is : fits_output F (length out) new ≡ m
    fit_is = ap₂ (sheets.fits F (length out)) variables_are nodes_are ∙ sym is

    pub no_place : m ≡ false → record { answer = claim_refused 0 13 0; output = out } ≡ claim_call (format_of s.format) b (side r.exists) d out
    no_place e =
        refused_call F b q d out 0 13 0
        (room_refused F b q d out h.first.tests_pass h.second.tests_pass h.same_prefix g h.are_read covering ordered (fit_is ∙ e))

    module _ (e : m ≡ true) where
      fit : fits_output F (length out) new ≡ true
      fit = fit_is ∙ e

      pub claimable : Claimable b s d r cuts (length out)
      unfolding sheet_length
      claimable =
          record {
            first = sheet_source h.first;
            second = sheet_source h.second;
            paired = h.paired;
            same_format = sym (sheet_format h.second);
            room =
                record {
                  holds =
                      subst (λ (n : ℕ). n ≤ length out)
                      (length-sheet F new ∙ ap₂ (sheet_length F) variables_are (ap (λ (f : Formula). rows f.matrix) (sym new_is)))
                      (fits-length F (length out) new fit);
                };
            few_rows =
                omega (
                  arith,
                  fits-rows F (length out) new fit,
                  ap (λ (f : Formula). rows f.matrix) new_is,
                  (limits s.format).few_nodes,
                );
          }

      pub written_call : {o : Bytes} {n : ℕ} → o ≡ padded (length out) (sheet (format_in s) (claimed b s d r)) → n ≡ length (sheet (format_in s) (claimed b s d r))
          → record { answer = claim_written n; output = o } ≡ claim_call (format_of s.format) b (side r.exists) d out
      written_call x y =
          ap₂ (λ (n : ℕ) (o : Bytes). record { answer = claim_written n; output = o }) (y ∙ ap (λ f. length (sheet F f)) new_is)
          (x ∙ ap (λ f. padded (length out) (sheet F f)) new_is) ∙
          sym
          (claim_accepted F b q d out h.first.tests_pass h.second.tests_pass h.same_prefix g h.are_read covering ordered fit)

-- what an answer says once its refusal has been put down to one of the three

pub kept_told : {T : Type 0} (r : Result T Refusal) (s : T) → MatchResult r (λ t. ◌≡◌ {A = Result T ClaimRefusal} (Ok s) (Ok t)) (λ e. ⊥) → r ≡ Ok s
kept_told {T} (Ok t) s d = ap Ok (sym (same s t d))
  where
    same : (x y : T) → ◌≡◌ {A = Result T ClaimRefusal} (Ok x) (Ok y) → x ≡ y
    same x y e = cc
kept_told (Err e) s d = absurd d

pub turned_told : {T : Type 0} (F : Refusal → ClaimRefusal) (r : Result T Refusal) (x : ClaimRefusal)
    → MatchResult r (λ t. ◌≡◌ {A = Result T ClaimRefusal} (Err x) (Ok t)) (λ e. x ≡ F e) → (e : Refusal) × (r ≡ Err e) × (x ≡ F e)
turned_told F (Ok t) x d = cc
turned_told F (Err e) x d = (e, refl, d)

pub kept_sheet : (f : Format) (b : Bytes) (r : Result Layout Refusal) (s : Layout) → checked_answer r ≡ check (format_of f) b
    → IfOk r (λ t. t.format ≡ f) → MatchResult r (λ t. ◌≡◌ {A = Result Layout ClaimRefusal} (Ok s) (Ok t)) (λ e. ⊥) → Sheet f b s
kept_sheet f b r s told same d =
    let e = kept_told r s d in
    sheet_checked (accepted_as e told) (IfOk-at_ok (λ (t : Layout). t.format ≡ f) e same)

-- what was planned

pub plan_refused : (f : Format) (b : Bytes) (exists : Bool) (d : Bytes) (t : Layout) (cuts : List ℕ) {r : Result ℕ Refusal} {e : Refusal}
    → r ≡ Err e → ClaimPlans f b exists d t cuts r → (out : Bytes)
    → record { answer = claim_refused 2 (number_of e) (place_of e); output = out } ≡ claim_call (format_of f) b (side exists) d out
plan_refused f b exists d t cuts {r} {e} told h out =
    refused_call (format_of f) b (side exists) d out 2 (number_of e) (place_of e) (subst (ClaimPlans f b exists d t cuts) told h out)

pub plan_claims : {f : Format} {b : Bytes} {exists : Bool} {d : Bytes} {t : Layout} {cuts : List ℕ} {r : Result ℕ Refusal} {n : ℕ}
    → r ≡ Ok n → ClaimPlans f b exists d t cuts r → ClaimPlanned f b exists d t cuts n
plan_claims {f} {b} {exists} {d} {t} {cuts} e h = subst (ClaimPlans f b exists d t cuts) e h

module _ {b : Bytes} {s : Layout} {exists : Bool} {d : Bytes} {t : Layout} {cuts : List ℕ} {n : ℕ} (x : Sheet s.format b s) (y : Sheet s.format d t)
    (p : ClaimPlanned s.format b exists d t cuts n) where
  -- the table has the rows of all pairs
  pub cuts_enough : n + 1 ≤ length cuts
  cuts_enough = omega (arith, counted d p.paired, length-take (suc n) cuts, p.passed.counted)

  pub fitting : {rows : List ℕ} → rows ≡ take (suc n) cuts → ClaimFitting b s d (record { layout = t; exists = exists }) rows
  fitting e =
      record {
        first = x;
        second = y;
        same_prefix = p.same_prefix;
        are_read = p.are_read;
        paired = subst (Paired t d) (sym e) p.paired;
        passed = record { counted = refl; covering = p.passed.covering; ordered = p.passed.ordered };
      }

-- the two sheets

module _ (f : Format) (b d out : Bytes) (q : Quantifier) where
  pub first_call : {n i : ℕ} → refused n i ≡ check (format_of f) b
      → record { answer = claim_refused 1 n i; output = out } ≡ claim_call (format_of f) b q d out
  first_call {n} {i} e = refused_call (format_of f) b q d out 1 n i (first_refused (format_of f) b q d out n i (sym e))

  pub second_call : {s : Layout} {n i : ℕ} → Sheet f b s → refused n i ≡ check (format_of f) d
      → record { answer = claim_refused 2 n i; output = out } ≡ claim_call (format_of f) b q d out
  second_call {s} {n} {i} h e = refused_call (format_of f) b q d out 2 n i (second_refused (format_of f) b q d out h.tests_pass n i (sym e))

  -- for the side that code names otherwise
  pub checked_call : {s : Layout} (e : Bool) {w : Claiming} → Sheet f b s → side e ≡ q → w ≡ claim_call (format_in s) b (side e) d out
      → w ≡ claim_call (format_of f) b q d out
  checked_call e h same is = is ∙ ap₂ (λ (k : Format) (p : Quantifier). claim_call (format_of k) b p d out) (sheet_format h) same

-- the second sheet has the first one's format
pub second_own : {f : Format} {b d : Bytes} {s t : Layout} → Sheet f b s → Sheet f d t → Sheet s.format d t
second_own {d = d} {t = t} x y = subst (λ (g : Format). Sheet g d t) (sym (sheet_format x)) y
