-- The meaning of a member: that of the table that it is, from what the two kinds of table, d and p,
-- mean as tables. A vacant one has eight segments and no rows. Assumes nothing.
use Rattle.std.specs.Prelude.{ℕ, List, []}
use Rattle.cascade.specs.declared.members.Member.{Member}
use Rattle.cascade.specs.declared.members.Member.TheVariants.{Device, Planes, Vacant}
use Rattle.table.specs.Row.{Row}
use Rattle.table.specs.declared.tables.Table.{Ghosts}

module _ {D P : Type 0} (d : Ghosts D) (p : Ghosts P) where
  abbrev pub width_of : Member D P → ℕ
  width_of (Device a) = d.width a
  width_of (Planes a) = p.width a
  width_of Vacant = 8

  abbrev pub rows_of : Member D P → List Row
  rows_of (Device a) = d.rows a
  rows_of (Planes a) = p.rows a
  rows_of Vacant = []

  -- what a call keeps: a member stays the kind of table that it is
  abbrev pub FrameOf : Member D P → Member D P → Type 0
  FrameOf (Device a) (Device b) = d.frame a b
  FrameOf (Device a) (Planes b) = ⊥
  FrameOf (Device a) Vacant = ⊥
  FrameOf (Planes a) (Device b) = ⊥
  FrameOf (Planes a) (Planes b) = p.frame a b
  FrameOf (Planes a) Vacant = ⊥
  FrameOf Vacant (Device b) = ⊥
  FrameOf Vacant (Planes b) = ⊥
  FrameOf Vacant Vacant = Unit {0}
