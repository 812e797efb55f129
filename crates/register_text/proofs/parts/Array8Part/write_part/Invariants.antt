-- The loop has written the parts that it took, each after a space.
use Rattle.std.proofs.Common.{codes, ◌++◌, take}
use Rattle.std.specs.Fmt.{HasWritten, IsPlainFormatter}
use Rattle.std.specs.List.{flat_map}
use Rattle.register_text.proofs.parts.Array8Part.write_part.Given as goal

abbrev pub invariant-loop-part : goal.invariant-loop-part
invariant-loop-part g l = IsPlainFormatter l.initial.f → HasWritten g.W.Write.write_str_gives l.initial.f (flat_map (λ y. codes " " ++ g.T.Part.text y) (take l.part-index l.rest)) l.f
