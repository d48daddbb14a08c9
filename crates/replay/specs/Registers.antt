-- The registers of docs/REPLAY.md.
use Rattle.std.specs.Prelude.{ℕ, ◌%◌, cond, List, [], eqb, map, take}
use Rattle.arrayvec.specs.ArrayVec.{ArrayVec}
use Rattle.replay.specs.declared.names.Register.{Register}
use Rattle.replay.specs.declared.names.Register.TheVariants.{Font, Cu, Panel, Out, Keep1, Flip1, Keep2, Flip2, File, Counts}
use Rattle.replay.specs.declared.registers.Slices.{Slices}
use Rattle.replay.specs.declared.registers.Registers.{Registers}

-- a register that holds these words
abbrev pub holds : List ℕ → ArrayVec ℕ
holds words = record { items = words }

abbrev pub slices : ArrayVec ℕ → ArrayVec ℕ → Slices
slices keep flip = record { keep = keep; flip = flip }

abbrev pub registers : ArrayVec ℕ → ArrayVec ℕ → ArrayVec ℕ → ArrayVec ℕ → Slices → Slices → ArrayVec ℕ → ArrayVec ℕ → ArrayVec ℕ
    → Registers
registers font cu panel out one two file counts written = record {
  font = font;
  cu = cu;
  panel = panel;
  out = out;
  one = one;
  two = two;
  file = file;
  counts = counts;
  written = written;
}

-- "all empty at the start"
abbrev pub no_slices : Slices
no_slices = slices (holds []) (holds [])

abbrev pub nothing_held : Registers
nothing_held =
    registers (holds []) (holds []) (holds []) (holds []) no_slices no_slices (holds []) (holds []) (holds [])

-- the words of a line that stand for bytes
abbrev pub low_byte : ℕ → ℕ
low_byte word = word % 256

-- "S is 1 or 2 and names the sheet"
unfoldable pub chosen : ℕ → Slices → Slices → Slices
chosen number one two = cond (eqb number 2) two one

-- "the register becomes these words", of which it holds "at most" so many
unfoldable pub registers_with : Register → List ℕ → Registers → Registers
registers_with Font words r = registers (holds (take 70000 words)) r.cu r.panel r.out r.one r.two r.file r.counts r.written
registers_with Cu words r = registers r.font (holds (take 530000 words)) r.panel r.out r.one r.two r.file r.counts r.written
registers_with Panel words r = registers r.font r.cu (holds (take 40000 words)) r.out r.one r.two r.file r.counts r.written
registers_with Out words r = registers r.font r.cu r.panel (holds (take 70000 words)) r.one r.two r.file r.counts r.written
registers_with Keep1 words r =
    registers r.font r.cu r.panel r.out (slices (holds (take 40000 words)) r.one.flip) r.two r.file r.counts r.written
registers_with Flip1 words r =
    registers r.font r.cu r.panel r.out (slices r.one.keep (holds (take 40000 words))) r.two r.file r.counts r.written
registers_with Keep2 words r =
    registers r.font r.cu r.panel r.out r.one (slices (holds (take 40000 words)) r.two.flip) r.file r.counts r.written
registers_with Flip2 words r =
    registers r.font r.cu r.panel r.out r.one (slices r.two.keep (holds (take 40000 words))) r.file r.counts r.written
registers_with File words r =
    registers r.font r.cu r.panel r.out r.one r.two (holds (map low_byte (take 140000 words))) r.counts r.written
registers_with Counts words r = registers r.font r.cu r.panel r.out r.one r.two r.file (holds (take 64 words)) r.written

-- "the words that the last `convert` wrote, at most 70,000": the first `count` of `out`
abbrev pub registers_written : ℕ → Registers → Registers
registers_written count r =
    registers r.font r.cu r.panel r.out r.one r.two r.file r.counts (holds (take 70000 (take count r.out.items)))

-- "`font` becomes the words that the last `convert` wrote"
abbrev pub registers_reading : Registers → Registers
registers_reading r =
    registers (holds (take 70000 r.written.items)) r.cu r.panel r.out r.one r.two r.file r.counts r.written

-- the register `counts` with these words
abbrev pub with_counts : List ℕ → Registers → Registers
with_counts words r = registers r.font r.cu r.panel r.out r.one r.two r.file (holds words) r.written
