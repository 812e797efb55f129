-- The width of a block as text is its number of bits. Assumes nothing.
use Rattle.std.proofs.Common.{◌≡◌, refl}
use Rattle.std.specs.Fmt.{decimal, digits}
use Rattle.registers.specs.Setting.{bits_of}
use Rattle.registers.specs.Texts.{width_text}
use Rattle.registers.specs.declared.setting.BlockWidth.{BlockWidth}
use Rattle.registers.specs.declared.setting.BlockWidth.TheVariants.{Eight, Sixteen, ThirtyTwo}

pub decimal_bits : (width : BlockWidth) → decimal (bits_of width) ≡ width_text width
unfolding digits
decimal_bits Eight = refl
decimal_bits Sixteen = refl
decimal_bits ThirtyTwo = refl
