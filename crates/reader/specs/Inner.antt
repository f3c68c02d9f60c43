-- What is unread of a text behind its header, and the answer to the lists below a header.
-- Assumes nothing.
use Rattle.std.specs.Prelude.{◌≡◌, ℕ, ◌≤◌, length, drop}
use Rattle.sheet.specs.Format.{Bytes, Format}
use Rattle.sheet.specs.Operations.{Written}
use Rattle.sheet.specs.Qdimacs.{text_header, words_below, qdimacs_call}
use Rattle.sheet.specs.Texts.{separated}
use Rattle.qdimacs.specs.declared.header.Header.{Header}
use Rattle.qdimacs.specs.Inner.Header.{Heads}
use Rattle.reader.specs.declared.Headed.{Headed}

pub record HeadedAt (t : Bytes) (at : ℕ) (h : Headed) : Type 0 where
  pub inside : h.to ≤ length t
  pub heads : Heads (text_header (drop at t)) h.header
  pub below : separated (drop h.to t) ≡ words_below (drop at t)

-- the lists of a text with this header and these bytes below it
pub record ListsRead (F : Format) (h : Header) (b out : Bytes) (w : Written) : Type 0 where
  pub reads : (t : Bytes) → Heads (text_header t) h → words_below t ≡ separated b → w ≡ qdimacs_call F t out
