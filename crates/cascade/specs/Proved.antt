-- What a member owes as a table, from what its tables have proved. Assumes nothing.
use Rattle.std.proofs.Common.{lit≤}
use Rattle.cascade.specs.Members.{FrameOf, rows_of, width_of}
use Rattle.cascade.specs.declared.members.Member.{Member}
use Rattle.cascade.specs.declared.members.Member.TheVariants.{Device, Planes, Vacant}
use Rattle.table.specs.Laws.{Sound}
use Rattle.table.specs.declared.tables.Table.{Ghosts}

module _ {D P : Type 0} (d : Ghosts D) (p : Ghosts P) where
  pub sound_of : (m : Member D P) → Sound (width_of d p m) (rows_of d p m)
  sound_of (Device a) = d.sound a
  sound_of (Planes a) = p.sound a
  sound_of Vacant = record { some = lit≤ tt; narrow = lit≤ tt; few = lit≤ tt; each = tt }

  pub same_of : (m : Member D P) → FrameOf d p m m
  same_of (Device a) = d.same a
  same_of (Planes a) = p.same a
  same_of Vacant = tt

  pub chain_of : (a b c : Member D P) → FrameOf d p a b → FrameOf d p b c → FrameOf d p a c
  chain_of (Device a) (Device b) (Device c) h k = d.chain a b c h k
  chain_of (Device a) (Device b) (Planes c) h k = elim k [ ]
  chain_of (Device a) (Device b) Vacant h k = elim k [ ]
  chain_of (Device a) (Planes b) c h k = elim h [ ]
  chain_of (Device a) Vacant c h k = elim h [ ]
  chain_of (Planes a) (Device b) c h k = elim h [ ]
  chain_of (Planes a) (Planes b) (Device c) h k = elim k [ ]
  chain_of (Planes a) (Planes b) (Planes c) h k = p.chain a b c h k
  chain_of (Planes a) (Planes b) Vacant h k = elim k [ ]
  chain_of (Planes a) Vacant c h k = elim h [ ]
  chain_of Vacant (Device b) c h k = elim h [ ]
  chain_of Vacant (Planes b) c h k = elim h [ ]
  chain_of Vacant Vacant (Device c) h k = elim k [ ]
  chain_of Vacant Vacant (Planes c) h k = elim k [ ]
  chain_of Vacant Vacant Vacant h k = tt
