-- In a group each row's hit mark tells whether it matched. Assumes nothing.
--   Stands   a row now, beside the row as it was when the group began
use Rattle.std.proofs.Common.{◌≡◌, ℕ, ◌<◌, Bool, true, false, not, ◌&&◌, ◌||◌, List, [], ◌∷◌, ◌++◌, map, length, get_or, Some, None, Option, sym, refl, ap, ◌∙◌, arith}
use Rattle.life.specs.Walks.{agrees_with, matched}
use Rattle.std.proofs.Math.Bool.{and-true, and_assoc}
use Rattle.std.proofs.lemmas.List.Elements.{AllZip-get_or, length_all_zip}
use Rattle.std.specs.List.{AllZip}
use Rattle.table.specs.Calls.{row_at}
use Rattle.table.specs.Laws.{Least}
use Rattle.table.specs.Row.{Row, agrees, blank, is_empty, is_hit, searched, unvisited}
use Rattle.table.specs.declared.parts.Search.{Search}

pub record Stands (S : List Search) (was row : Row) : Type 0 where
  pub words : row.words ≡ was.words
  pub empty : is_empty row ≡ is_empty was
  pub hit : is_hit row ≡ matched S was

pub each_map : (P Q : Row → Row → Type 0) (g : Row → Row) → ((x y : Row) → P x y → Q x (g y)) → (xs ys : List Row) → AllZip P xs ys → AllZip Q xs (map g ys)
each_map P Q g h [] [] e = tt
each_map P Q g h [] (y ∷ ys) e = e
each_map P Q g h (x ∷ xs) [] e = e
each_map P Q g h (x ∷ xs) (y ∷ ys) e = (h x y e.0, each_map P Q g h xs ys e.1)

each_of : (Q : Row → Row → Type 0) (g : Row → Row) → ((x : Row) → Q x (g x)) → (xs : List Row) → AllZip Q xs (map g xs)
each_of Q g h [] = tt
each_of Q g h (x ∷ xs) = (h x, each_of Q g h xs)

-- the search that begins a group
head_hit : (q : Search) (row : Row) → q.head ≡ true → is_hit (searched q row) ≡ matched (q ∷ []) row
head_hit q row e = ap (λ h. not (is_empty row) && (agrees q (get_or row.words q.segment 0) && (h || is_hit row))) e

pub stands_head : (q : Search) → q.head ≡ true → (rs : List Row) → AllZip (Stands (q ∷ [])) rs (map (searched q) rs)
stands_head q e rs = each_of (Stands (q ∷ [])) (searched q) (λ row. record { words = refl; empty = refl; hit = head_hit q row e }) rs

-- the searches after it
agrees_push : (S : List Search) (q : Search) (words : List ℕ) → agrees_with (S ++ q ∷ []) words ≡ (agrees_with S words && agrees q (get_or words q.segment 0))
agrees_push [] q words = and-true (agrees q (get_or words q.segment 0))
agrees_push (p ∷ S) q words =
    ap (λ b. agrees p (get_or words p.segment 0) && b) (agrees_push S q words)
    ∙ sym (and_assoc (agrees p (get_or words p.segment 0)) (agrees_with S words) (agrees q (get_or words q.segment 0)))

step_hit : (valid a s : Bool) → (valid && (a && (valid && s))) ≡ (valid && (s && a))
step_hit true true true = refl
step_hit true true false = refl
step_hit true false true = refl
step_hit true false false = refl
step_hit false a s = refl

-- the hit mark that a search leaves
abbrev hits_by : Search → List ℕ → Bool → Bool → Bool → Bool
hits_by q words empty head hit = not empty && (agrees q (get_or words q.segment 0) && (head || hit))

stands_row : (S : List Search) (q : Search) → q.head ≡ false → (was row : Row) → Stands S was row → Stands (S ++ q ∷ []) was (searched q row)
stands_row S q e was row h = record {
  words = h.words;
  empty = h.empty;
  hit = ap (λ ws. hits_by q ws (is_empty row) q.head (is_hit row)) h.words ∙ ap (λ b. hits_by q was.words b q.head (is_hit row)) h.empty
      ∙ ap (λ b. hits_by q was.words (is_empty was) b (is_hit row)) e ∙ ap (hits_by q was.words (is_empty was) false) h.hit
      ∙ step_hit (not (is_empty was)) (agrees q (get_or was.words q.segment 0)) (agrees_with S was.words)
      ∙ sym (ap (λ b. not (is_empty was) && b) (agrees_push S q was.words));
}

pub stands_next : (S : List Search) (q : Search) → q.head ≡ false → (R rs : List Row) → AllZip (Stands S) R rs → AllZip (Stands (S ++ q ∷ [])) R (map (searched q) rs)
stands_next S q e R rs h = each_map (Stands S) (Stands (S ++ q ∷ [])) (searched q) (stands_row S q e) R rs h

pub stands_unvisited : (S : List Search) (R rs : List Row) → AllZip (Stands S) R rs → AllZip (Stands S) R (map unvisited rs)
stands_unvisited S R rs h = each_map (Stands S) (Stands S) unvisited (λ was row k. record { words = k.words; empty = k.empty; hit = k.hit }) R rs h

-- what the hit marks tell of the first hit, the matching tells too
module _ (S : List Search) (R rs : List Row) (h : AllZip (Stands S) R rs) where
  hit_at : (k : ℕ) → k < length R → is_hit (row_at rs k) ≡ matched S (row_at R k)
  hit_at k lt = (AllZip-get_or (Stands S) R rs k blank blank h lt).hit

  pub least_matched : (n : ℕ) (r : Option ℕ) → Least is_hit rs n r → Least (matched S) R n r
  least_matched n None none = λ k from lt. sym (hit_at k lt) ∙ none k from (rw (sym (length_all_zip (Stands S) R rs h)) lt)
  least_matched n (Some a) l =
      let long = length_all_zip (Stands S) R rs h in
      let lt : a < length R = omega arith in
      (l.0, lt, sym (hit_at a lt) ∙ l.2, λ k from below. sym (hit_at k (omega arith)) ∙ l.3 k from below)
