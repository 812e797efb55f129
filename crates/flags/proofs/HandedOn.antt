-- The flag handed on from member to member. Assumes nothing.
use Rattle.std.proofs.Common.{◌≡◌, ℕ, zero, suc, ◌<◌, ◌≤◌, List, length, get_or, take, Some, sym, ap, ◌∙◌, add-one, arith}
use native.Mathlib.Nat.{sub-zero}
use Rattle.flags.proofs.Parts.{flag_next, told}
use Rattle.flags.specs.Cuts.{Cut, Running, end_of, flag_up_to, own_flag}
use Rattle.flags.specs.Laws.{Lasting, Laws, between}
use Rattle.flags.specs.declared.kinds.Part.{Part}
use Rattle.table.specs.Row.{Row}

module _ {K : Type 0} {flag : List Row → ℕ → K} {join : K → K → K} {none : K} (laws : Laws flag join none) (rs : List Row) where
  pub handed_none : Lasting flag rs 0 0 (record { flag = none; until = Some 0 })
  handed_none = record {
    reached = omega arith;
    same = λ k above below. let e : k ≡ 0 = omega arith in ap (λ n. flag (between 0 n rs) 0) e ∙ laws.empty 0;
  }

  -- a member whose rows from `until` on were not asked about
  pub handed_on : (start end until : ℕ) (x : K) (next : Part K) → Lasting flag rs 0 start (record { flag = x; until = Some until }) → until < end → end ≤ length rs
      → Lasting (λ xs n. join x (flag xs n)) rs until end next → Lasting flag rs 0 end next
  handed_on start end until x next known new fits part = record {
    reached = part.reached;
    same = λ k above below.
        flag_next laws rs 0 until k (omega arith) (omega arith) (omega arith)
        ∙ ap (λ v. join v (flag (between until k rs) until)) (known.same until known.reached (omega arith))
        ∙ part.same k above below;
  }

  up_to : (n : ℕ) → flag (take n rs) 0 ≡ flag (between 0 n rs) 0
  up_to n = rw (sub-zero n)

  -- what is handed on to the end of a member is the flag of all rows up to there
  pub handed_told : (cut : List ℕ) (member : ℕ) (part : Part K) → Lasting flag rs 0 (end_of cut (length rs) member) part → part.flag ≡ flag_up_to flag rs cut member
  handed_told cut member part h = sym (told h) ∙ sym (up_to (end_of cut (length rs) member))

  module _ (cut : List ℕ) (right : Cut cut (length rs)) where
    start : ℕ → ℕ
    start i = get_or cut i (length rs)

    from_start : (i : ℕ) → i < length cut → start i ≤ length rs
        → flag_up_to flag rs cut i ≡ join (flag (between 0 (start i) rs) 0) (own_flag flag rs cut i)
    unfolding start
    from_start i lt fits =
        up_to (end_of cut (length rs) i)
        ∙ flag_next laws rs 0 (get_or cut i (length rs)) (end_of cut (length rs) i) (omega arith) (right.rising i lt) fits

    pub running_told : Running flag join none rs cut
    unfolding start
    running_told zero lt =
        from_start zero lt (omega (arith, right.first))
        ∙ ap (λ n. join (flag (between 0 n rs) 0) (own_flag flag rs cut zero)) right.first
        ∙ ap (λ x. join x (own_flag flag rs cut zero)) (laws.empty 0)
    running_told (suc i) lt =
        let here : start (suc i) ≡ end_of cut (length rs) i = ap start (sym (add-one i)) in
        from_start (suc i) lt (rw here (right.within i (omega arith)))
        ∙ ap (λ x. join x (own_flag flag rs cut (suc i))) (sym (up_to (start (suc i))) ∙ ap (λ n. flag (take n rs) 0) here ∙ running_told i (omega arith))
