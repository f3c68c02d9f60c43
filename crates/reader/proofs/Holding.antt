-- What a reader owns: the borrow of its text, beside the facts of its offset. A shared borrow is Copy, so both are had as often as wanted.
--     opened    a text and an offset  ⊢  a reader of them
--     lent      a reader  ⊢  its text, and the reader
-- Assumes `Logic`.
use mathlib.Core.Path.{◌≡◌, refl}
use mathlib.Core.List.{List, [], ◌∷◌}
use Prim.Native.Nat.{ℕ, ◌<◌, ◌^◌}
use seplogic.Ra.Ura.{Ura}
use mir.Syntax.{w64}
use base.Logic.{ent, sep}
use base.Fml.{Fml}
use types.Logic.{Logic, sem}
use types.Kit.{‵, given, ◌⊛◌, ◌$◌, ◌∵◌, !, qed, by, move, drop, use1, split, learn, fsplit, fjoin, frame, done}
use denote.Laws.{Is}
use denote.Plain.{uint_Makes}
use denote.Builtin.{u8, usize}
use denote.Ref.{Bor, NamedLft}
use denote.Slice.{ShrSlice, shr_slice_vals}
use denote.Steps.{owned, nothing}
use denote.Struct.Laws as LL
use denote.Struct.Rest.{all_own, own_open, own_shut}
use Rattle.reader.specs.declared.Reader.{Reader}
use Rattle.reader.specs.contracts.Reader as T
use Rattle.reader.proofs.Reader.TheLaws as T'

module _ (α : NamedLft) where
  abbrev pub Text : Bor (List ℕ) → Fml
  Text x = (ShrSlice α.mir α.lft u8).own_val x (shr_slice_vals x)

  abbrev pub Held : Reader → Fml
  Held d = (T.the_row α).own_val d (T'.lowered d ∷ [])

  module _ {M : Type 1} {𝓤 : Ura M} (𝓛 : Logic 𝓤) where
    pub opened : (x : Bor (List ℕ)) (n : ℕ) → n < 2 ^ 64 → ent 𝓤 (sem 𝓛 (Text x)) (sem 𝓛 (Held (record { text = x; at = n })))
    opened x n fits =
        qed 𝓛 (‵ (Text x) ∷ []) ∵ nothing ! $ owned ! usize (Is usize) (uint_Makes 𝓛 w64) n _ (refl, fits) $ fjoin ! $ move ! (1 ∷ 0 ∷ []) $ fjoin ! $
        by ! (own_shut 𝓛 (T.the_type α) (T'.the_laws α) (x, (n, tt)))

    pub lent : (d : Reader) → ent 𝓤 (sem 𝓛 (Held d)) (sep 𝓤 (sem 𝓛 (Text d.text)) (sem 𝓛 (Held d)))
    lent d =
        qed 𝓛 (‵ (Held d) ∷ []) ∵ use1 𝓛 (‵ (Held d) ⊛ ‵ (Held d)) ((LL.copy (T.the_type α) (T'.the_copy α) 𝓛).twice d (T'.lowered d ∷ [])) $ split ! $
        use1 𝓛 (given (T'.lowered d ∷ [] ≡ T'.lowered d ∷ []) (‵ (all_own (T.the_type α).parts (T'.the_laws α) (d.text, (d.at, tt)))))
        (own_open 𝓛 (T.the_type α) (T'.the_laws α) (d.text, (d.at, tt)) (T'.lowered d)) $
        learn ! (λ _. fsplit ! $ move ! (1 ∷ []) $ drop ! $ frame ! $ done !)
