-- A row function does the same before a row is cut and after it, if it looks at no segment that is
-- cut away. Assumes nothing.
use Rattle.std.proofs.Common.{◌≡◌, ℕ, ◌<◌, refl}
use lib.Seq.{take-set-lt}
use Rattle.std.proofs.lemmas.List.{get_or-take}
use Rattle.table.specs.Row.{Row, marked, purged, searched, unvisited, vacated, word_in, written}
use Rattle.table.specs.declared.parts.Marking.{Marking}
use Rattle.table.specs.declared.parts.Purge.{Purge}
use Rattle.table.specs.declared.parts.Search.{Search}
use Rattle.join.specs.Joined.{cut_row}

-- f does to a cut row what it does to the whole row
abbrev pub Even : ℕ → (Row → Row) → Type 0
Even w f = (row : Row) → f (cut_row w row) ≡ cut_row w (f row)

module _ (w : ℕ) where
  pub word_in_cut : (row : Row) (s : ℕ) → s < w → word_in (cut_row w row) s ≡ word_in row s
  word_in_cut row s h = get_or-take w row.words s 0 h

  pub even_searched : (q : Search) → q.segment < w → Even w (searched q)
  even_searched q h row = rw (get_or-take w row.words q.segment 0 h)

  pub even_written : (s word : ℕ) → s < w → Even w (written s word)
  even_written s word h row = rw (take-set-lt w row.words s word h)

  pub even_marked : (m : Marking) → Even w (marked m)
  even_marked m row = refl

  pub even_purged : (k : Purge) → Even w (purged k)
  even_purged k row = refl

  pub even_unvisited : Even w unvisited
  even_unvisited row = refl

  pub even_vacated : Even w vacated
  even_vacated row = refl
