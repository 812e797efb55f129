-- What became of a block as text, in bytes. Assumes nothing.
use Rattle.std.specs.Prelude.{ℕ, List, codes}
use Rattle.ports.specs.declared.input.BlockAnswer.{BlockAnswer}
use Rattle.ports.specs.declared.input.BlockAnswer.TheVariants.{Ignored, Taken, Searched}

abbrev pub block_text : BlockAnswer → List ℕ
block_text Ignored = codes "ignored"
block_text Taken = codes "taken"
block_text Searched = codes "searched"
