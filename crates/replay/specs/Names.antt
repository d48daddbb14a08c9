-- The names of docs/REPLAY.md, each told by a number: two digits for a character.
use Rattle.std.specs.Prelude.{ℕ, ◌+◌, ◌-◌, ◌*◌, cond, ltb, eqb, Option, Some, None}
use Rattle.replay.specs.declared.names.Register.{Register}
use Rattle.replay.specs.declared.names.Register.TheVariants.{Font, Cu, Panel, Out, Keep1, Flip1, Keep2, Flip2, File, Counts}
use Rattle.replay.specs.declared.names.Command.{Command}
use Rattle.replay.specs.declared.names.Command.TheVariants.{Set, Show, Written, Convert, Check, Glyph, Dots, Row, Measure, Paint}
use Rattle.replay.specs.declared.names.Command.TheVariants.{PaintLit, Fresh, Gather, Join, Apply, ApplyLit, Clear, Other}

-- the registers: font, cu, panel, out, file
abbrev pub font : ℕ
font = 06151420

abbrev pub cu : ℕ
cu = 0321

abbrev pub panel : ℕ
panel = 1601140512

abbrev pub out : ℕ
out = 152120

abbrev pub file : ℕ
file = 06091205

-- counts
abbrev pub counts : ℕ
counts = 031521142019

-- keep1, flip1, keep2, flip2
abbrev pub keep1 : ℕ
keep1 = 1105051649

abbrev pub flip1 : ℕ
flip1 = 0612091649

abbrev pub keep2 : ℕ
keep2 = 1105051650

abbrev pub flip2 : ℕ
flip2 = 0612091650

-- the calls: check, glyph, dots, row
abbrev pub check : ℕ
check = 0308050311

abbrev pub glyph : ℕ
glyph = 0712251608

abbrev pub dots : ℕ
dots = 04152019

abbrev pub row : ℕ
row = 181523

-- measure, paint
abbrev pub measure : ℕ
measure = 13050119211805

abbrev pub paint : ℕ
paint = 1601091420

-- fresh, gather, join, apply
abbrev pub fresh : ℕ
fresh = 0618051908

abbrev pub gather : ℕ
gather = 070120080518

abbrev pub join : ℕ
join = 10150914

abbrev pub apply : ℕ
apply = 0116161225

-- paintlit, applylit, clear
abbrev pub paintlit : ℕ
paintlit = 1601091420120920

abbrev pub applylit : ℕ
applylit = 0116161225120920

abbrev pub clear : ℕ
clear = 0312050118

-- convert, written, show
abbrev pub convert : ℕ
convert = 03151422051820

abbrev pub written : ℕ
written = 23180920200514

abbrev pub show : ℕ
show = 19081523

-- a small letter's place in the alphabet; any other character's code in ASCII
unfoldable pub number_of_character : ℕ → ℕ
number_of_character b = cond (ltb b 97) b (b - 96)

-- a name with one more character; a name of nine stays
unfoldable pub name_with : ℕ → ℕ → ℕ
name_with name b = cond (ltb 9999999999999999 name) name (name * 100 + number_of_character b)

-- the table of registers
unfoldable pub register_named : ℕ → Option Register
register_named name =
    cond (eqb name font) (Some Font)
    (cond (eqb name cu) (Some Cu)
    (cond (eqb name panel) (Some Panel)
    (cond (eqb name out) (Some Out)
    (cond (eqb name keep1) (Some Keep1)
    (cond (eqb name flip1) (Some Flip1)
    (cond (eqb name keep2) (Some Keep2)
    (cond (eqb name flip2) (Some Flip2)
    (cond (eqb name file) (Some File)
    (cond (eqb name counts) (Some Counts)
    None)))))))))

-- a register's name is the command that sets it; any other word is passed over
unfoldable pub setting : Option Register → Command
setting (Some register) = Set register
setting None = Other

-- the tables of commands and calls
unfoldable pub command_named : ℕ → Command
command_named name =
    cond (eqb name show) Show
    (cond (eqb name written) Written
    (cond (eqb name convert) Convert
    (cond (eqb name check) Check
    (cond (eqb name glyph) Glyph
    (cond (eqb name dots) Dots
    (cond (eqb name row) Row
    (cond (eqb name measure) Measure
    (cond (eqb name paint) Paint
    (cond (eqb name paintlit) PaintLit
    (cond (eqb name fresh) Fresh
    (cond (eqb name gather) Gather
    (cond (eqb name join) Join
    (cond (eqb name apply) Apply
    (cond (eqb name applylit) ApplyLit
    (cond (eqb name clear) Clear
    (setting (register_named name)))))))))))))))))

-- how many fields stand before a command's values, where it has values
unfoldable pub numbers_before : Command → Option ℕ
numbers_before (Set register) = Some 0
numbers_before Measure = Some 1
numbers_before Paint = Some 7
numbers_before PaintLit = Some 7
numbers_before Gather = Some 8
numbers_before Show = None
numbers_before Written = None
numbers_before Convert = None
numbers_before Check = None
numbers_before Glyph = None
numbers_before Dots = None
numbers_before Row = None
numbers_before Fresh = None
numbers_before Join = None
numbers_before Apply = None
numbers_before ApplyLit = None
numbers_before Clear = None
numbers_before Other = None
