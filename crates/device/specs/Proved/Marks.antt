-- Mark bytes and marks, by trying every byte that stands for marks. Assumes nothing.
use Rattle.std.specs.Prelude.{◌≡◌, ℕ, Bool, true, false, cond, not, ◌&&◌, ◌||◌, ◌==◌, bit_and, bit_or, refl}
use Rattle.std.proofs.Common.{sym, ap, ◌∙◌}
use Rattle.device.specs.Layout.{marks_of, byte_of, proper}
use Rattle.std.proofs.lemmas.Bool.{and_parts, eqb-true, not-true}
use Rattle.table.specs.declared.parts.Marks.{Marks}

pub byte_of-marks_of : (b : ℕ) → proper b ≡ true → byte_of (marks_of b) ≡ b
byte_of-marks_of b h = sym (eqb-true b _ (and_parts (b == byte_of (marks_of b)) _ h).0)

pub quiet_marks_of : (b : ℕ) → proper b ≡ true → ((marks_of b).empty && (marks_of b).hit) ≡ false
quiet_marks_of b h = not-true _ (and_parts (b == byte_of (marks_of b)) _ h).1

pub marks_of-byte_of : (m : Marks) → marks_of (byte_of m) ≡ m
marks_of-byte_of m = each m.empty m.access m.hit
  where
    each : (e a h : Bool) → marks_of (byte_of record { empty = e; access = a; hit = h }) ≡ record { empty = e; access = a; hit = h }
    each true true true = refl
    each true true false = refl
    each true false true = refl
    each true false false = refl
    each false true true = refl
    each false true false = refl
    each false false true = refl
    each false false false = refl

-- marks that are not those of an empty row with a hit make a proper byte
pub proper-byte_of : (m : Marks) → (m.empty && m.hit) ≡ false → proper (byte_of m) ≡ true
proper-byte_of m = each m.empty m.access m.hit
  where
    each : (e a h : Bool) → (e && h) ≡ false → proper (byte_of record { empty = e; access = a; hit = h }) ≡ true
    each true true true q = sym q
    each true true false q = refl
    each true false true q = sym q
    each true false false q = refl
    each false true true q = refl
    each false true false q = refl
    each false false true q = refl
    each false false false q = refl

-- a test that passes at both truth values passes at each
every : (Bool → Bool) → Bool
every p = p true && p false

every_at : (p : Bool → Bool) → every p ≡ true → (b : Bool) → p b ≡ true
unfolding every
every_at p h true = (and_parts (p true) (p false) h).0
every_at p h false = (and_parts (p true) (p false) h).1

-- the byte that a search makes of a byte b, where the row agrees or not
abbrev pub byte_searched : ℕ → Bool → Bool → Bool → ℕ
byte_searched b head agrees access =
    bit_or (bit_and b 192) (cond (agrees && bit_and (bit_or b (cond head 32 0)) 160 == 32) (bit_or 32 (cond access 64 0)) 0)

abbrev pub marks_then : Marks → Bool → Bool → Bool → Marks
marks_then m head agrees access = record {
  empty = m.empty;
  access = m.access || (access && (not m.empty && (agrees && (head || m.hit))));
  hit = not m.empty && (agrees && (head || m.hit));
}

abbrev kept : Bool → Bool → Bool → Bool → Bool → Bool → Bool
kept e a h head agrees access =
    (byte_searched (byte_of record { empty = e; access = a; hit = h }) head agrees access == byte_of (marks_then record { empty = e; access = a; hit = h } head agrees access))

kept_all : (e a h head agrees access : Bool) → kept e a h head agrees access ≡ true
unfolding every
kept_all e a h head agrees access =
    every_at (λ x. kept e a h head agrees x) (every_at (λ y. every (λ x. kept e a h head y x)) (every_at (λ z. every (λ y. every (λ x. kept e a h z y x)))
    (every_at (λ u. every (λ z. every (λ y. every (λ x. kept e a u z y x)))) (every_at (λ v. every (λ u. every (λ z. every (λ y. every (λ x. kept e v u z y x)))))
    (every_at (λ w. every (λ v. every (λ u. every (λ z. every (λ y. every (λ x. kept w v u z y x)))))) refl e) a) h) head) agrees) access

pub byte_searched_lem : (b : ℕ) (head agrees access : Bool) → proper b ≡ true → byte_searched b head agrees access ≡ byte_of (marks_then (marks_of b) head agrees access)
byte_searched_lem b head agrees access h =
    ap (λ x. byte_searched x head agrees access) (sym (byte_of-marks_of b h))
    ∙ eqb-true _ _ (kept_all (marks_of b).empty (marks_of b).access (marks_of b).hit head agrees access)
