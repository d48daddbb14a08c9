-- What a plan says of the file that is written by it.
use Rattle.std.specs.Prelude.{ℕ, ◌*◌}
use Rattle.words.specs.Word.{word}
use Rattle.convert.specs.declared.Plan.{Plan}
use Rattle.convert.specs.Writing.{Drawing}
use Rattle.convert.specs.Cu.{drawn}

-- what is drawn
abbrev pub planned : Plan → Drawing
planned plan = drawn plan.cu.now plan.source.now

-- where a code stands in the CU file; 0 for one that is absent
abbrev pub planned_place : Plan → ℕ → ℕ
planned_place plan c = word plan.source.now.places.table c

-- how many words the bitmap has
abbrev pub planned_words : Plan → ℕ
planned_words plan = plan.layout.raster * plan.layout.rows
