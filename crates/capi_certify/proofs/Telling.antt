-- What Certify's answer claims about truth, its number claims too.
-- Assumes nothing.
use mathlib.Core.Path.{◌≡◌, refl, sym, subst}
use mathlib.Core.Bool.{Bool, true, false}
use mathlib.Core.List.{List}
use Prim.Native.Nat.{ℕ}
use native.Mathlib.Omega.{arith}
use Rattle.formula.specs.Tree.{Op}
use Rattle.formula.specs.Certificates.{Certified, certain, uncertain}
use Rattle.sheet.specs.Format.{Bytes}
use Rattle.sheet.specs.Check.{Answer, refused, accepted, IsKnown, check_tests}
use Rattle.sheet.specs.Certificates.{certify_call}
use Rattle.sheet.specs.Truthful.{truth_of, TruthfulCertify}
use Rattle.sheet.proofs.Known.{refused_known, check-known}
use Rattle.sheet.proofs.Truthful.{certify_truthful}
use Rattle.rows.specs.Formats.{format_of}
use Rattle.rows.specs.declared.Format.{Format}
use Rattle.packing.specs.Packed.{packed}
use Rattle.packing.specs.Unpacked.{number_of}
use Rattle.packing.proofs.Telling.{number_told, word_told}
use Rattle.capi_certify.specs.Packed.{packed_certified}
use Rattle.capi_certify.specs.Told.{ToldCertify}

told_certified : {t : Bool} (a : Answer Certified) → ((n i : ℕ) → a ≡ refused n i → IsKnown n) → TruthfulCertify t a → ToldCertify t (packed_certified a)
unfolding packed_certified
told_certified (refused n i) known truthful =
    let k = known n i refl in
    let no : number_of (packed n 0 i 0) ≡ 0 → ⊥ = λ z. omega (arith, k.least, k.most, z, number_told n 0 i 0) in
    record { on_true = λ z w. absurd (no z); on_false = λ z w. absurd (no z) }
told_certified (accepted (certain true)) known truthful =
    record {
      on_true = λ z w. sym (truthful.on_certain true refl);
      on_false = λ z w. absurd (omega (arith, word_told 0 1 0 0, w));
    }
told_certified (accepted (certain false)) known truthful =
    record {
      on_true = λ z w. absurd (omega (arith, word_told 0 0 0 0, w));
      on_false = λ z w. sym (truthful.on_certain false refl);
    }
told_certified (accepted (uncertain n)) known truthful =
    record {
      on_true = λ z w. absurd (omega (arith, word_told 0 2 0 n, w));
      on_false = λ z w. absurd (omega (arith, word_told 0 2 0 n, w));
    }

pub certify_told : (f : Format) (b : Bytes) (o : Op) (heads codes : List ℕ) {n : ℕ} → n ≡ packed_certified (certify_call (format_of f) b o heads codes)
    → (n ≡ packed_certified (certify_call (format_of f) b o heads codes)) × ToldCertify (truth_of (format_of f) b) n
unfolding certify_call
certify_told f b o heads codes e = (
  e,
  subst (ToldCertify (truth_of (format_of f) b)) (sym e)
      (told_certified (certify_call (format_of f) b o heads codes) (λ n i h. refused_known (check_tests (format_of f) b) _ (check-known (format_of f) b) h)
      (certify_truthful (format_of f) b o heads codes refl)),
)
