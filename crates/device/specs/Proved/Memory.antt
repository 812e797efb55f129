-- The memory of a device is the rows laid out, and what lies past them. Assumes nothing.
use Rattle.std.specs.Prelude.{◌≡◌, ℕ, zero, suc, ◌*◌, ◌<◌, ◌≤◌, true, List, [], ◌∷◌, ◌++◌, length, take, drop, slice_index, slice_index_or, refl}
use Rattle.std.proofs.Common.{sym, ap, ◌∙◌, suc-mul, zero-mul, add-one, arith, take-add}
use Rattle.device.specs.Proved.Marks.{byte_of-marks_of, quiet_marks_of}
use Rattle.device.specs.Proved.Rows.{length_rows, row_at_rows, rows_apart}
use Rattle.device.specs.Layout.{byte_of, proper, row_in, rows_of}
use Rattle.device.specs.Rows.{Frame, bytes_of, rows_in, words_of}
use Rattle.device.specs.declared.device.Device.{Device}
use Rattle.std.proofs.lemmas.List.FromFn.{map-range_with_len_more}
use Rattle.std.proofs.lemmas.List.{drop_at, ext_get_or, get_or-map, get_or-take, flat_map_more, length-drop, length-map, length-take-le, take-append-drop}
use Rattle.std.proofs.ByRecursion.{All-from_get_or}
use Rattle.table.specs.Laws.{Sound, SoundRow}
use Rattle.table.specs.Row.{Row, blank}

-- one row more
rows_more : (ws ms : List ℕ) (k d : ℕ) → rows_of ws ms k (suc d) ≡ rows_of ws ms k d ++ row_in ws ms k d ∷ []
unfolding rows_of
rows_more ws ms k d = ap (rows_of ws ms k) (sym (add-one d)) ∙ map-range_with_len_more (row_in ws ms k) 0 d d (omega arith)

words_more : (rs : List Row) (row : Row) → words_of (rs ++ row ∷ []) ≡ words_of rs ++ row.words
unfolding words_of
words_more rs row = sym (flat_map_more (λ r. r.words) [] rs row)

pub words_of_rows : (ws ms : List ℕ) (k d : ℕ) → words_of (rows_of ws ms k d) ≡ take (d * k) ws
unfolding words_of rows_of
words_of_rows ws ms k zero = rw (zero-mul k)
words_of_rows ws ms k (suc d) =
    ap words_of (rows_more ws ms k d) ∙ words_more (rows_of ws ms k d) (row_in ws ms k d)
    ∙ ap (λ xs. xs ++ take k (drop (d * k) ws)) (words_of_rows ws ms k d)
    ∙ sym (rw (suc-mul d k) (take-add (d * k) k ws))

pub bytes_of_rows : (ws ms : List ℕ) (k d : ℕ) → d ≤ length ms → ((r : ℕ) → r < d → proper (slice_index ms r) ≡ true)
    → bytes_of (rows_of ws ms k d) ≡ take d ms
unfolding bytes_of
bytes_of_rows ws ms k d held tidy = ext_get_or 0 _ _
    (length-map (rows_of ws ms k d) _ ∙ length_rows ws ms k d ∙ sym (length-take-le d ms held))
    (λ r h. let low : r < length (rows_of ws ms k d) = rw (length-map (rows_of ws ms k d) (λ (row : Row). byte_of row.marks)) at h in
    let lt : r < d = rw (length_rows ws ms k d) at low in
    get_or-map (λ row. byte_of row.marks) (rows_of ws ms k d) r blank 0 low
    ∙ ap (λ row. byte_of row.marks) (row_at_rows ws ms k d r lt)
    ∙ byte_of-marks_of (slice_index ms r) (tidy r lt) ∙ sym (get_or-take d ms r 0 lt))

-- what has the same lenders, the same shape and the same cells past the rows
pub framed : (a b : Device) → b.words.ghost_name ≡ a.words.ghost_name → b.marks.ghost_name ≡ a.marks.ghost_name → b.width ≡ a.width → b.depth ≡ a.depth
    → drop (b.depth * b.width) b.words.now ≡ drop (a.depth * a.width) a.words.now
    → drop b.depth b.marks.now ≡ drop a.depth a.marks.now → Frame a b
framed a b name_words name_marks width depth words marks = record {
  lent_words = name_words;
  lent_marks = name_marks;
  width = width;
  depth = depth;
  words = sym (take-append-drop (b.depth * b.width) b.words.now)
      ∙ ap (λ xs. xs ++ drop (b.depth * b.width) b.words.now) (sym (words_of_rows b.words.now b.marks.now b.width b.depth))
      ∙ ap (λ xs. words_of (rows_in b) ++ xs) words;
  marks = sym (take-append-drop b.depth b.marks.now)
      ∙ ap (λ xs. xs ++ drop b.depth b.marks.now) (sym (bytes_of_rows b.words.now b.marks.now b.width b.depth b.marked b.tidy))
      ∙ ap (λ xs. bytes_of (rows_in b) ++ xs) marks;
}

pub frame_same : (a : Device) → Frame a a
frame_same a = framed a a refl refl refl refl refl refl

-- the cells past the rows are those of a
rest_words : (a b : Device) → Frame a b → drop (b.depth * b.width) b.words.now ≡ drop (a.depth * a.width) a.words.now
rest_words a b f =
    ap (drop (b.depth * b.width)) f.words
    ∙ drop_at (words_of (rows_in b)) _ (b.depth * b.width)
    (ap length (words_of_rows b.words.now b.marks.now b.width b.depth) ∙ length-take-le (b.depth * b.width) b.words.now b.worded)

rest_marks : (a b : Device) → Frame a b → drop b.depth b.marks.now ≡ drop a.depth a.marks.now
rest_marks a b f =
    ap (drop b.depth) f.marks
    ∙ drop_at (bytes_of (rows_in b)) _ b.depth
    (ap length (bytes_of_rows b.words.now b.marks.now b.width b.depth b.marked b.tidy) ∙ length-take-le b.depth b.marks.now b.marked)

pub frame_chain : (a b c : Device) → Frame a b → Frame b c → Frame a c
frame_chain a b c f g = framed a c (g.lent_words ∙ f.lent_words) (g.lent_marks ∙ f.lent_marks) (g.width ∙ f.width) (g.depth ∙ f.depth)
    (rest_words b c g ∙ rest_words a b f) (rest_marks b c g ∙ rest_marks a b f)

sound_row : (d : Device) (r : ℕ) → r < d.depth → SoundRow d.width (slice_index_or (rows_in d) r blank)
sound_row d r h = rw (row_at_rows d.words.now d.marks.now d.width d.depth r h) record {
  wide = length-take-le d.width (drop (r * d.width) d.words.now) (rw length-drop (omega (arith, rows_apart r d.depth d.width h, d.worded)));
  quiet = quiet_marks_of (slice_index d.marks.now r) (d.tidy r h);
}

pub sound_rows : (d : Device) → Sound d.width (rows_in d)
sound_rows d = record {
  some = d.some;
  narrow = d.narrow;
  few = rw (length_rows d.words.now d.marks.now d.width d.depth) (omega (arith, d.few));
  each = All-from_get_or (SoundRow d.width) (rows_in d) blank (λ r h. sound_row d r (rw (length_rows d.words.now d.marks.now d.width d.depth) at h));
}
