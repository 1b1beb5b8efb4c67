use Rattle.chip_machine.proofs.StartMemory.{image_and_zeros, same_below_the_image}
use Rattle.chip_machine.proofs.laws.image_at_the_start.Goals as goal

pub returns : goal.returns
returns c = record { from_512 = image_and_zeros; below = same_below_the_image }
