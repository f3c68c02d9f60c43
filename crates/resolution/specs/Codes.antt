-- The codes of a constraint, but for one that is left out.
-- Assumes nothing.
use Rattle.std.specs.Prelude.{◌≡◌, Bool, false, not, ◌&&◌, ◌||◌, cond, List, [], ◌∷◌, ℕ, suc, ◌-◌, ◌*◌, ◌/◌, ◌%◌, ◌≤◌, eqb, ltb, length, get_or}
use Rattle.std.proofs.Math.Seq.{slice}
use Rattle.sets.specs.Sets as sets
use Rattle.sheet.specs.Certificates.{code_of, step_words}
use Rattle.resolution.specs.declared.words.Part.{Part}

-- the code of the complement
abbrev pub complement : ℕ → ℕ
complement c = cond (eqb (c % 2) 0) (suc c) (c - 1)

-- a code passes a test, and isn't the one left out
abbrev pub kept : ℕ → (ℕ → Bool) → ℕ → Bool
kept skip P c = not (eqb skip c) && P c

unfoldable pub some_kept : ℕ → (ℕ → Bool) → List ℕ → Bool
some_kept skip P [] = false
some_kept skip P (w ∷ ws) = kept skip P (code_of w) || some_kept skip P ws

-- the words of a part, and a code of them that passes
abbrev pub words_in : Part → List ℕ → List ℕ
words_in p codes = slice p.from p.to codes

abbrev pub some_in : Part → List ℕ → (ℕ → Bool) → Bool
some_in p codes P = some_kept p.skip P (words_in p codes)

-- the part of step k, without a code
pub record PartOf (heads codes : List ℕ) (k skip : ℕ) (p : Part) : Type 0 where
  pub within : p.to ≤ length codes
  pub words_are : words_in p codes ≡ step_words heads codes k
  pub skips : p.skip ≡ skip

-- a family of tests, before and after the codes of a part: those that a code passes are added
abbrev pub Adds : (ℕ → ℕ → Bool) → Part → List ℕ → (ℕ → Bool) → (ℕ → Bool) → Type 0
Adds P p codes before after = (u : ℕ) → after u ≡ (some_in p codes (P u) || before u)

-- the same of three parts, the last one first
abbrev pub Gathers : (ℕ → ℕ → Bool) → Part → Part → Part → List ℕ → (ℕ → Bool) → (ℕ → Bool) → Type 0
Gathers P a b d codes before after =
    (u : ℕ) → after u ≡ (some_in b codes (P u) || (some_in a codes (P u) || (some_in d codes (P u) || before u)))

-- a set has room for every code
abbrev pub Wide : List ℕ → Type 0
Wide set = 4096 ≤ 64 * length set

-- what a set of codes gains
pub record Marked (p : Part) (codes set set' : List ℕ) : Type 0 where
  pub same_length : length set' ≡ length set
  pub adds : Adds eqb p codes (sets.holds set) (sets.holds set')

-- the rank of a code's variable by a table, and whether it is behind x
abbrev pub rank_in : List ℕ → ℕ → ℕ
rank_in table c = get_or table (c / 2) 0

abbrev pub ranked_behind : List ℕ → ℕ → ℕ → Bool
ranked_behind table x c = ltb x (rank_in table c)

-- a code that isn't among the derived ones, and may not go: last is the last rank of the side's own
unfoldable pub uncovered : List ℕ → List ℕ → List ℕ → ℕ → ℕ → Bool
uncovered other derived all last c =
    not (sets.holds derived c ||
    (not (eqb (rank_in other c) 0) && not (ltb (rank_in other c) last) && not (sets.holds all (complement c))))

-- a table of ranks and two sets that have entries for every code
pub record Covering (other derived all : List ℕ) : Type 0 where
  pub ranks : 2048 ≤ length other
  pub derived_codes : Wide derived
  pub all_codes : Wide all
