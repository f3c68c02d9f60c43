-- The goals of `qdimacs::body::read_body`. Assumes nothing.
use mathlib.Core.Bool.{true, not, ◌&&◌, and-false}
use borrow.Author.Tests.{not-true, not-false, eq-eqb, ne_eqb}
use Rattle.std.proofs.Common.{◌≡◌, sym, ap, ap₂, ◌∙◌, ℕ, ◌<◌, eqb, length, arith}
use Rattle.sheet.specs.Format.{Bytes}
use Rattle.sheet.specs.Qdimacs.{all, text_header}
use Rattle.sheet.specs.Texts.{up_to}
use Rattle.words.specs.Numbers.{Capped, largest}
use Rattle.qdimacs.specs.Inner.Lists.{between, clause_tokens, ends}
use Rattle.qdimacs.specs.Inner.Cursor.{tokens_at, Cuts}
use Rattle.qdimacs.specs.Inner.Clauses.{Counts}
use Rattle.qdimacs.specs.declared.clauses.Clauses.{Clauses}
use Rattle.qdimacs.specs.declared.prefix.Cut.{Cut}
use Rattle.qdimacs.proofs.Whole.{not_listed, too-high, other-count, right-counts, same_count, disordered, listed-so, ends-are, up_to_more}
use Rattle.qdimacs.proofs.body.read_body.Goals as goal

-- the clauses are as many as the header says if the code's own numbers agree
count_said : {b : Bytes} {cut : Cut} {n : Clauses} → Cuts b cut → cut.ordered ≡ true → Counts b cut.at n → length b < largest → (m h : ℕ) → Capped largest m h
    → eqb (ends (clause_tokens between (tokens_at b 0))) m ≡ eqb n.count h
count_said {n = n} cuts order counts short m h capped =
    sym (ap (λ k. eqb k m) (ends-are cuts order counts)) ∙ sym (same_count n.count m h (omega (arith, counts.few, short)) capped)

pub returns-then-not-cut : goal.returns-then-not-cut
returns-then-not-cut c =
    record { answers = λ t w h. not_listed w c.args.out.now (disordered c.prefix_end-cut.ensures (not-true _ c.if-not-cut.true)) }

pub returns-then-not-c : goal.returns-then-not-c
returns-then-not-c c =
    let n = c.count_clauses-c.result in
    let listed = listed-so c.prefix_end-cut.ensures (not-false _ c.if-not-cut.false) c.count_clauses-c.ensures in
    let e = listed ∙ ap (λ q. q && not n.ongoing) (not-true _ c.if-not-c.true) in
    record { answers = λ t w h. not_listed w c.args.out.now e }

pub returns-then-c : goal.returns-then-c
returns-then-c c =
    let n = c.count_clauses-c.result in
    let listed = listed-so c.prefix_end-cut.ensures (not-false _ c.if-not-cut.false) c.count_clauses-c.ensures in
    let e = listed ∙ ap (λ q. n.whole && not q) c.if-c.true ∙ and-false n.whole in
    record { answers = λ t w h. not_listed w c.args.out.now e }

pub returns-then-has_above : goal.returns-then-has_above
returns-then-has_above c =
    let a = c.args in
    let listed = listed-so c.prefix_end-cut.ensures (not-false _ c.if-not-cut.false) c.count_clauses-c.ensures in
    let well = listed ∙ ap₂ (λ p q. p && not q) (not-false _ c.if-not-c.false) c.if-c.false in
    let e = not-true (all (up_to a.h.variables) (tokens_at a.b.now 0)) (sym c.has_above.ensures ∙ c.if-has_above.true) in
    record { answers = λ t w h. too-high w a.out.now well e }

pub returns-then-c-h : goal.returns-then-c-h
returns-then-c-h c =
    let a = c.args in
    let cuts = c.prefix_end-cut.ensures in
    let counts = c.count_clauses-c.ensures in
    let well = listed-so cuts (not-false _ c.if-not-cut.false) counts ∙ ap₂ (λ p q. p && not q) (not-false _ c.if-not-c.false) c.if-c.false in
    record {
      answers = λ t w h. other-count w a.out.now well
          (count_said cuts (not-false _ c.if-not-cut.false) counts c.requires.1 (text_header t).clause_count a.h.clauses h ∙
          ne_eqb c.count_clauses-c.result.count a.h.clauses c.if-c-h.true);
    }

pub read_scanned-requires : goal.read_scanned-requires
read_scanned-requires c =
    let a = c.args in
    let cuts = c.prefix_end-cut.ensures in
    let counts = c.count_clauses-c.ensures in
    let well = listed-so cuts (not-false _ c.if-not-cut.false) counts ∙ ap₂ (λ p q. p && not q) (not-false _ c.if-not-c.false) c.if-c.false in
    let low = not-false (all (up_to a.h.variables) (tokens_at a.b.now 0)) (sym c.has_above.ensures ∙ c.if-has_above.false) in
    record {
      listed = record { well = well; below = up_to_more a.h.variables (tokens_at a.b.now 0) c.requires.0 low };
      inside = cuts.inside;
      clauses_from = cuts.clauses_from (not-false _ c.if-not-cut.false);
      clauses_are = counts.count_is;
      words_are = counts.words_are;
      most_is = c.requires.0;
    }

pub returns : goal.returns
returns c =
    let a = c.args in
    let cuts = c.prefix_end-cut.ensures in
    let counts = c.count_clauses-c.ensures in
    let well = listed-so cuts (not-false _ c.if-not-cut.false) counts ∙ ap₂ (λ p q. p && not q) (not-false _ c.if-not-c.false) c.if-c.false in
    let low = not-false (all (up_to a.h.variables) (tokens_at a.b.now 0)) (sym c.has_above.ensures ∙ c.if-has_above.false) in
    record {
      answers = λ t w h. c.read_scanned.ensures.answers t w
          (right-counts w a.out.now well low
          (count_said cuts (not-false _ c.if-not-cut.false) counts c.requires.1 (text_header t).clause_count a.h.clauses h ∙
          eq-eqb c.count_clauses-c.result.count a.h.clauses c.if-c-h.false));
    }
