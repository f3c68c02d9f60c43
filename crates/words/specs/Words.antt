-- Words between white bytes, by how many bytes they take.
-- Assumes nothing.
use Rattle.std.specs.Prelude.{Bool, true, false, cond, [], ◌∷◌, ℕ, suc}
use Rattle.sheet.specs.Format.{Bytes}
use Rattle.sheet.specs.Qdimacs.{line_end}
use Rattle.sheet.specs.Texts.{separator}

-- the bytes that end a line, or else a word
abbrev pub ends : Bool → ℕ → Bool
ends true c = line_end c
ends false c = separator c

-- how many bytes are before the first that separates
unfoldable pub lead : (ℕ → Bool) → Bytes → ℕ
lead separates [] = 0
lead separates (c ∷ b) = cond (separates c) 0 (suc (lead separates b))

-- how many white bytes are in front
unfoldable pub gap : Bytes → ℕ
gap [] = 0
gap (c ∷ b) = cond (separator c) (suc (gap b)) 0
