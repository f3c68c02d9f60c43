-- The lists below a header, and test 15 before them.
-- Assumes nothing.
use mathlib.Core.Logic.{inl, inr}
use mathlib.Core.Path.{◌≡◌, refl, sym, ap, ap₂, ◌∙◌, subst}
use mathlib.Core.Bool.{true, false}
use mathlib.Core.List.{List, map}
use Prim.Native.Nat.{ℕ, ◌-◌, ◌≤◌, ◌<◌}
use native.Mathlib.Omega.{arith}
use lib.ListN.{length, take, drop}
use borrow.Author.Tests.{lt-ltb, le-ltb}
use Rattle.std.specs.Prelude.{Result}
use Rattle.sheet.specs.Format.{Bytes}
use Rattle.sheet.specs.Check.{Answer, refused}
use Rattle.sheet.specs.Qdimacs.{token, text_header, tokens_below}
use Rattle.sheet.proofs.Qdimacs.Answers.{qdimacs_refused, refused_15}
use Rattle.sheet.specs.Texts.{header_fails}
use Rattle.rows.specs.Formats.{format_of}
use Rattle.rows.specs.declared.Format.{Format}
use Rattle.rows.proofs.Limits.{limits}
use Rattle.checking.specs.Answers.{written_answer}
use Rattle.rows.specs.declared.refusals.Refusal.{Refusal}
use Rattle.words.specs.Numbers.{Capped, largest}
use Rattle.qdimacs.specs.declared.header.Header.{Header}
use Rattle.qdimacs.specs.Inner.Header.{Heads}
use Rattle.qdimacs.specs.Inner.Body.{Below, Answers}
use Rattle.reader.specs.Inner.{ListsRead}
use Rattle.reader.proofs.Heading.{unread_lent}

same_capped : (n v : ℕ) → v ≤ 1024 → Capped largest n v → n ≡ v
same_capped n v small (inl e) = sym e
same_capped n v small (inr e) = absurd (omega (arith, e.1))

more_capped : (n v m : ℕ) → m ≤ 1024 → m < v → Capped largest n v → m < n
more_capped n v m small less (inl e) = omega (arith, e)
more_capped n v m small less (inr e) = omega (arith, e.0)

module _ (f : Format) (h : Header) (b out : Bytes) where
  abbrev Refused : Type 0
  Refused = ListsRead (format_of f) h b out (record { answer = refused 15 0; output = out })

  refuses : ((t : Bytes) → Heads (text_header t) h → header_fails (format_of f) (text_header t) ≡ true) → Refused
  refuses bad =
      record {
        reads = λ t heads below.
            let e = refused_15 (format_of f) t out (bad t heads) in
            ap₂ (λ (r : Answer ℕ) (o : Bytes). record { answer = r; output = o }) (sym e) (sym (qdimacs_refused (format_of f) t out 15 0 e));
      }

  pub malformed : h.well_formed ≡ false → Refused
  malformed e = refuses (λ t heads. rw (sym heads.well_formed_is ∙ e) refl)

  module _ (formed : h.well_formed ≡ true) where
    abbrev most : ℕ
    most = (format_of f).most_variables

    pub crowded : most < h.variables → Refused
    crowded more =
        refuses (λ t heads.
        let many = more_capped _ _ most (limits f).few_variables more (heads.variables_are formed) in
        rw (sym heads.well_formed_is ∙ formed, lt-ltb most (text_header t).variable_count many) refl)

    pub listed : {r : Result ℕ Refusal} {new : Bytes} → h.variables ≤ most → Answers (format_of f) b h out r new
        → ListsRead (format_of f) h b out (record { answer = written_answer r; output = new })
    unfolding tokens_below
    listed {r} {new} fits answers =
        record {
          reads = λ t heads below.
              let same = same_capped (text_header t).variable_count h.variables (omega (arith, (limits f).few_variables, fits)) (heads.variables_are formed) in
              let within : Below (format_of f) t b h.variables =
              record {
                tokens_are = ap (λ (ws : List Bytes). map token ws) below;
                header_good = rw (sym heads.well_formed_is ∙ formed, same) (le-ltb most h.variables fits);
                variables_are = same;
              }
              in
              answers.answers t within (heads.clauses_are formed);
        }

pub listed_from : (f : Format) (h : Header) (t : Bytes) (at : ℕ) (out : Bytes) → h.well_formed ≡ true → {r : Result ℕ Refusal} {new : Bytes}
    → h.variables ≤ (format_of f).most_variables → Answers (format_of f) (take (length t - at) (drop at t)) h out r new
    → ListsRead (format_of f) h (drop at t) out (record { answer = written_answer r; output = new })
listed_from f h t at out formed {r} {new} fits answers =
    listed f h (drop at t) out formed fits (subst (λ (b : Bytes). Answers (format_of f) b h out r new) (unread_lent at t) answers)
