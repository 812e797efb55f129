-- What the parts of a call's text say, from a place of a line on. Assumes nothing.
--   after, into   reading goes on with what was read, or ends with the fault
--   flag_at       whether the next word is a flag's name; if not, it is not passed over
--   …_named       what a word says that stands from `start` to `end`
--   …_at          what the next words say, and the place behind them
use Rattle.std.specs.Prelude.{ℕ, Bool, true, false, cond, List, Ok, Err, codes, Result}
use Rattle.registers.specs.declared.setting.InputStep.{InputStep}
use Rattle.registers.specs.declared.setting.Item.{Item}
use Rattle.registers.specs.declared.setting.Item.TheVariants.{Key, Status, Address, Segment}
use Rattle.registers.specs.declared.setting.OutputStep.{OutputStep}
use Rattle.table.specs.declared.parts.Marking.{Marking}
use Rattle.table.specs.declared.parts.Purge.{Purge}
use Rattle.table.specs.declared.parts.Purge.TheVariants.{All, WithAccess, WithoutAccess}
use Rattle.table.specs.declared.parts.Search.{Search}
use Rattle.tokens.specs.Faults.{fault_at}
use Rattle.tokens.specs.Numbers.{number32}
use Rattle.tokens.specs.Words.{is_text, next_end, next_word, word_start}
use Rattle.tokens.specs.declared.faults.Expected.TheVariants.{State as AState, Purge as APurge, Item as AnItem}
use Rattle.tokens.specs.declared.faults.TextFault.{TextFault}

-- what was read of a value, and the place behind it
abbrev pub ReadOf : Type 0 → Type 0
ReadOf X = Result (X × ℕ) TextFault

abbrev pub after : {X Y : Type 0} → ReadOf X → (X × ℕ → ReadOf Y) → ReadOf Y
after (Ok x) k = k x
after (Err e) k = Err e

abbrev pub into : {X Y : Type 0} → (X → Y) → ReadOf X → ReadOf Y
into f (Ok x) = Ok (f x.0, x.1)
into f (Err e) = Err e

abbrev pub two_numbers : List ℕ → ℕ → ReadOf (ℕ × ℕ)
two_numbers line at = after (number32 line at) (λ a. into (λ b. (a.0, b)) (number32 line a.1))

abbrev pub flag_at : List ℕ → ℕ → List ℕ → Bool × ℕ
flag_at line at name = cond (is_text (next_word line at) name) (true, next_end line at) (false, at)

abbrev pub with_flag : {X : Type 0} → (Bool → X) → Bool × ℕ → ReadOf X
with_flag f b = Ok (f b.0, b.1)

abbrev pub state_named : List ℕ → ℕ → ℕ → ReadOf Bool
state_named w start end = cond (is_text w (codes "valid")) (Ok (false, end)) (cond (is_text w (codes "empty")) (Ok (true, end)) (Err (fault_at start AState)))

abbrev pub marking_at : List ℕ → ℕ → ReadOf Marking
marking_at line at = after (state_named (next_word line at) (word_start line at) (next_end line at)) (λ s. with_flag (λ a. record { empty = s.0; access = a }) (flag_at line s.1 (codes "access")))

abbrev pub purge_named : List ℕ → ℕ → ℕ → ReadOf Purge
purge_named w start end = cond (is_text w (codes "all")) (Ok (All, end)) (cond (is_text w (codes "with-access")) (Ok (WithAccess, end)) (cond (is_text w (codes "without-access")) (Ok (WithoutAccess, end)) (Err (fault_at start APurge))))

abbrev pub purge_at : List ℕ → ℕ → ReadOf Purge
purge_at line at = purge_named (next_word line at) (word_start line at) (next_end line at)

-- the numbers, and then the flags, of a search
abbrev pub search_flags : List ℕ → ℕ → ℕ → ℕ × ℕ → Bool × ℕ → ReadOf Search
search_flags line key mask segment head = with_flag (λ a. record { key = key; mask = mask; segment = segment.0; head = head.0; access = a }) (flag_at line head.1 (codes "access"))

abbrev pub search_at : List ℕ → ℕ → ReadOf Search
search_at line at = after (two_numbers line at) (λ k. after (number32 line k.1) (λ s. search_flags line k.0.0 k.0.1 s (flag_at line s.1 (codes "head"))))

-- the numbers, and then the flags, of a step of the input port
abbrev pub input_end : List ℕ → ℕ → ℕ × ℕ → Bool → Bool × ℕ → ReadOf InputStep
input_end line mask places head access = with_flag (λ e. record { mask = mask; shift = places.0; segment = places.1; head = head; access = access.0; end = e }) (flag_at line access.1 (codes "end"))

abbrev pub input_flags : List ℕ → ℕ → ℕ × ℕ → Bool × ℕ → ReadOf InputStep
input_flags line mask places head = input_end line mask places head.0 (flag_at line head.1 (codes "access"))

abbrev pub input_at : List ℕ → ℕ → ReadOf InputStep
input_at line at = after (number32 line at) (λ m. after (two_numbers line m.1) (λ p. input_flags line m.0 p.0 (flag_at line p.1 (codes "head"))))

abbrev pub item_named : List ℕ → List ℕ → ℕ → ℕ → ReadOf Item
item_named line w start end = cond (is_text w (codes "key")) (into Key (number32 line end)) (cond (is_text w (codes "status")) (Ok (Status, end)) (cond (is_text w (codes "address")) (Ok (Address, end)) (cond (is_text w (codes "segment")) (into Segment (number32 line end)) (Err (fault_at start AnItem)))))

abbrev pub output_at : List ℕ → ℕ → ReadOf OutputStep
output_at line at = after (item_named line (next_word line at) (word_start line at) (next_end line at)) (λ i. with_flag (λ e. record { item = i.0; end = e }) (flag_at line i.1 (codes "end")))
