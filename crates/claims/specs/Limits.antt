-- The limits of every refusal, and their order: the paper's "Numbers returned". A row is what the definitions give and what the paper says,
-- which was worked out from the paper by hand: for each test the last value that is accepted and the first that is refused, and for every
-- two refusals that one call can earn, which of them comes first.
use Rattle.std.specs.Prelude.{ℕ, ◌+◌, Bool, true, false, cond, ◌&&◌, ◌||◌, List, [], ◌∷◌, ◌++◌, map, eqb, ℤ, pos, negsuc, replicate, set}
use Rattle.std.specs.Prelude.{take}
use Rattle.words.specs.Word.{bytes_of}
use Rattle.fonts.specs.Reading.{font_number}
use Rattle.fontbytes.specs.File.{file_number}
use Rattle.convert.specs.Writing.{Drawing, drawing_number}
use Rattle.convert.specs.Conversion.{cu_number, program_number}
use Rattle.paint.specs.declared.Shape.{Shape}
use Rattle.paint.specs.declared.Label.{Label}
use Rattle.paint.specs.Label.{call_of, reply_of, reply_number, measure_of, measure_file}
use Rattle.paint.specs.Sheet.{Sheet}
use Rattle.sheets.specs.Sheet.{fresh_number, gather_reply, join_number, apply_number}

abbrev pub Row : Type 0
Row = ℕ × ℕ

-- Font files

-- a PlainStrike of the codes 65 and 66: one row of dots, the first code two columns wide, the second one, the dummy two
unfoldable pub plain_file : List ℕ
plain_file =
    -- format, min, max, maxwidth
    0x8000 ∷ 65 ∷ 66 ∷ 2
    -- length, ascent, descent, xoffset, raster: 1 × 1 + 2 + 7 words in the body
    ∷ 10 ∷ 1 ∷ 0 ∷ 0 ∷ 1
    -- the bitmap, and the pointers from word 10
    ∷ 0xD800 ∷ 0 ∷ 2 ∷ 3 ∷ 5 ∷ []

-- the same as a KernedStrike, with the box words 4 to 7, the pointers from word 14 and the width entries from word 18
unfoldable pub kerned_file : List ℕ
kerned_file =
    0x9000 ∷ 65 ∷ 66 ∷ 2
    ∷ 0 ∷ 0 ∷ 2 ∷ 1
    ∷ 10 ∷ 1 ∷ 0 ∷ 0 ∷ 1
    ∷ 0xD800 ∷ 0 ∷ 2 ∷ 3 ∷ 5
    ∷ 0x0002 ∷ 0x0001 ∷ 0x0002 ∷ []

abbrev pub reads : List ℕ → ℕ → Row
reads file number = (font_number file, number)

-- one word put into both files, in each at its own place
abbrev pub put_in_both : ℕ → ℕ → ℕ → ℕ → List Row
put_in_both inPlain inKerned w number = reads (set plain_file inPlain w) number ∷ reads (set kerned_file inKerned w) number ∷ []

-- Whole files of both kinds. Given are min and max; the words from length to raster; how many words of bitmap and how many codes there are;
-- the last pointer. Before it all pointers are 0.
abbrev pub bitmap_and_pointers : ℕ → ℕ → ℕ → List ℕ
bitmap_and_pointers bitmap codes last = replicate bitmap 0 ++ replicate (codes + 1) 0 ++ last ∷ []

abbrev pub both_kinds : List ℕ → List ℕ → ℕ → ℕ → ℕ → ℕ → List Row
both_kinds minMax body bitmap codes last number =
    reads (0x8000 ∷ minMax ++ 1 ∷ body ++ bitmap_and_pointers bitmap codes last) number
    ∷ reads (0x9000 ∷ minMax ++ 1 ∷ 0 ∷ 0 ∷ 1 ∷ 1 ∷ body ++ bitmap_and_pointers bitmap codes last ++ replicate (codes + 1) 0x0001) number
    ∷ []

-- "1: fewer than 9 words; after 2 is passed, kerned and fewer than 13". A file that is cut behind that many words has the wrong length, 5.
unfoldable pub short_files : List Row
short_files =
    reads [] 1
    ∷ reads (take 8 plain_file) 1
    ∷ reads (take 9 plain_file) 5
    ∷ reads (take 8 kerned_file) 1
    ∷ reads (take 9 kerned_file) 1
    ∷ reads (take 12 kerned_file) 1
    ∷ reads (take 13 kerned_file) 5
    ∷ []

-- "2: top bit 0 .. or low twelve bits not zero"; fixed may be 0 or 1. P3: "the index bit alone is no longer refused 2"; as an index these
-- two files have no body, 15
unfoldable pub formats : List Row
formats =
    reads plain_file 0
    ∷ reads (set plain_file 0 0xA000) 0
    ∷ reads (set plain_file 0 0x0000) 2
    ∷ reads (set plain_file 0 0x2000) 2
    ∷ reads (set plain_file 0 0x4000) 2
    ∷ reads (set plain_file 0 0xC000) 15
    ∷ reads (set plain_file 0 0x8001) 2
    ∷ reads (set plain_file 0 0x8800) 2
    ∷ reads kerned_file 0
    ∷ reads (set kerned_file 0 0xB000) 0
    ∷ reads (set kerned_file 0 0x1000) 2
    ∷ reads (set kerned_file 0 0x3000) 2
    ∷ reads (set kerned_file 0 0x5000) 2
    ∷ reads (set kerned_file 0 0xD000) 15
    ∷ reads (set kerned_file 0 0x9001) 2
    ∷ reads (set kerned_file 0 0x9800) 2
    ∷ []

-- "3: min > max, or max > 255"
unfoldable pub code_limits : List Row
code_limits =
    both_kinds (65 ∷ 65 ∷ []) (9 ∷ 1 ∷ 0 ∷ 0 ∷ 1 ∷ []) 1 1 1 0
    ++ both_kinds (66 ∷ 65 ∷ []) (8 ∷ 1 ∷ 0 ∷ 0 ∷ 1 ∷ []) 1 0 1 3
    ++ both_kinds (255 ∷ 255 ∷ []) (9 ∷ 1 ∷ 0 ∷ 0 ∷ 1 ∷ []) 1 1 1 0
    ++ both_kinds (255 ∷ 256 ∷ []) (10 ∷ 1 ∷ 0 ∷ 0 ∷ 1 ∷ []) 1 2 1 3
    ++ both_kinds (256 ∷ 256 ∷ []) (9 ∷ 1 ∷ 0 ∷ 0 ∷ 1 ∷ []) 1 1 1 3
    ++ both_kinds (0 ∷ 255 ∷ []) (264 ∷ 1 ∷ 0 ∷ 0 ∷ 1 ∷ []) 1 256 1 0
    ++ both_kinds (0 ∷ 256 ∷ []) (265 ∷ 1 ∷ 0 ∷ 0 ∷ 1 ∷ []) 1 257 1 3

-- both kinds of a font of code 65 alone, whose dummy has one column
abbrev pub one_code : List ℕ → ℕ → ℕ → List Row
one_code body bitmap number = both_kinds (65 ∷ 65 ∷ []) body bitmap 1 1 number

-- "4: height not 1..256, raster not 1..4096, xoffset not 0". A plain file of 256 rows has 264 at word 4, where the other kind has FBBox.
unfoldable pub size_limits : List Row
size_limits =
    one_code (8 ∷ 0 ∷ 0 ∷ 0 ∷ 1 ∷ []) 0 4
    ++ one_code (9 ∷ 0 ∷ 1 ∷ 0 ∷ 1 ∷ []) 1 0
    ++ one_code (264 ∷ 256 ∷ 0 ∷ 0 ∷ 1 ∷ []) 256 0
    ++ one_code (264 ∷ 0 ∷ 256 ∷ 0 ∷ 1 ∷ []) 256 0
    ++ one_code (264 ∷ 255 ∷ 1 ∷ 0 ∷ 1 ∷ []) 256 0
    ++ one_code (265 ∷ 257 ∷ 0 ∷ 0 ∷ 1 ∷ []) 257 4
    ++ one_code (265 ∷ 256 ∷ 1 ∷ 0 ∷ 1 ∷ []) 257 4
    -- a height that would be 1 if it were counted in sixteen bits
    ++ one_code (9 ∷ 65535 ∷ 2 ∷ 0 ∷ 1 ∷ []) 1 4
    ++ one_code (8 ∷ 1 ∷ 0 ∷ 0 ∷ 0 ∷ []) 0 4
    ++ one_code (4104 ∷ 1 ∷ 0 ∷ 0 ∷ 4096 ∷ []) 4096 0
    ++ one_code (4105 ∷ 1 ∷ 0 ∷ 0 ∷ 4097 ∷ []) 4097 4
    ++ one_code (9 ∷ 1 ∷ 0 ∷ 1 ∷ 1 ∷ []) 1 4

-- "4: .. kerned and FBBox not -255..255"
unfoldable pub box_limits : List Row
box_limits =
    reads (set kerned_file 4 0xFF00) 4
    ∷ reads (set kerned_file 4 0xFF01) 0
    ∷ reads (set kerned_file 4 0x00FF) 0
    ∷ reads (set kerned_file 4 0x0100) 4
    ∷ reads (set kerned_file 4 0x7FFF) 4
    ∷ reads (set kerned_file 4 0x8000) 4
    ∷ []

-- "5: length word or file length differs from the sums above"
unfoldable pub length_limits : List Row
length_limits =
    put_in_both 4 8 9 5
    ++ put_in_both 4 8 11 5
    ++ reads (take 13 plain_file) 5
    ∷ reads (plain_file ++ 0 ∷ []) 5
    ∷ reads (take 20 kerned_file) 5
    ∷ reads (kerned_file ++ 0 ∷ []) 5
    ∷ []

-- "6: a pointer smaller than the one before, or the last over 16 × raster". The pointers are 0, 2, 3, 5.
unfoldable pub pointer_limits : List Row
pointer_limits =
    -- equal ones: the first two, and the second and third
    put_in_both 11 15 0 0
    ++ put_in_both 12 16 2 0
    -- a fall at the first pair, between, and at the last pair
    ++ put_in_both 10 14 3 6
    ++ put_in_both 11 15 4 6
    ++ put_in_both 12 16 6 6
    -- the first need not be 0
    ++ put_in_both 10 14 1 0
    ++ put_in_both 13 17 16 0
    ++ put_in_both 13 17 17 6
    ++ both_kinds (65 ∷ 65 ∷ []) (10 ∷ 1 ∷ 0 ∷ 0 ∷ 2 ∷ []) 2 1 32 0
    ++ both_kinds (65 ∷ 65 ∷ []) (10 ∷ 1 ∷ 0 ∷ 0 ∷ 2 ∷ []) 2 1 33 6

-- "7: no dummy: kerned entry FFFF". P1: a plain file whose dummy has no columns "is to load"; "7 stays for kerned files only"
unfoldable pub dummy_limits : List Row
dummy_limits =
    -- the dummy's edges equal, and one column apart
    put_in_both 13 17 3 0
    ++ put_in_both 13 17 4 0
    -- the same at the edge of the raster, and no picture at all, the dummy's or another
    ++ reads (set (set plain_file 12 16) 13 16) 0
    ∷ reads (set (set plain_file 12 17) 13 17) 6
    ∷ both_kinds (65 ∷ 65 ∷ []) (9 ∷ 1 ∷ 0 ∷ 0 ∷ 1 ∷ []) 1 1 0 0
    ++ reads (set kerned_file 20 0xFFFF) 7
    ∷ reads (set kerned_file 20 0xFFFE) 0
    ∷ reads (set kerned_file 19 0xFFFF) 0
    -- an absent dummy in a kerned file is refused whether it has columns or not
    ∷ reads (set (set kerned_file 17 3) 20 0xFFFF) 7
    ∷ []

-- "The reader doesn't look at fixed, maxwidth, FBBoy, FBBdx or FBBdy"; fixed is above
unfoldable pub unread : List Row
unread =
    put_in_both 3 3 0xFFFF 0
    ++ reads (set kerned_file 5 0xFFFF) 0
    ∷ reads (set kerned_file 6 0xFFFF) 0
    ∷ reads (set kerned_file 7 0xFFFF) 0
    ∷ []

unfoldable pub font_limits : List Row
font_limits =
    short_files ++ formats ++ code_limits ++ size_limits ++ box_limits ++ length_limits ++ pointer_limits ++ dummy_limits ++ unread

-- Label calls and sheets

abbrev pub shape_of : ℕ → ℕ → ℕ → Shape
shape_of rowwords rows width = record { rowwords = rowwords; rows = rows; width = width }

abbrev pub label_of : ℕ → ℤ → ℤ → ℕ → Label
label_of strip x y mode = record { strip = strip; x = x; y = y; mode = mode }

abbrev pub lent_sheet : ℕ → ℕ → Sheet
lent_sheet keep flip = record { keep = replicate keep 0; flip = replicate flip 0 }

abbrev pub origin : Label
origin = label_of 0 (pos 0) (pos 0) 0

abbrev pub letter : List ℕ
letter = 65 ∷ []

-- what each call is refused by, where the slices that it is lent have so many words
abbrev pub painting : Shape → ℕ → Label → List ℕ → ℕ
painting shape panel label text = reply_number (reply_of shape (panel ∷ []) (call_of kerned_file label text))

abbrev pub gathering : Shape → ℕ → ℕ → Label → List ℕ → ℕ
gathering shape keep flip label text = reply_number (gather_reply shape (call_of kerned_file label text) (lent_sheet keep flip))

abbrev pub joining : Shape → ℕ → ℕ → ℕ → ℕ → ℕ
joining shape keep flip keepOn flipOn = join_number shape (lent_sheet keep flip) (lent_sheet keepOn flipOn)

abbrev pub applying : Shape → ℕ → ℕ → ℕ → ℕ
applying shape keep flip panel = apply_number shape (lent_sheet keep flip) (replicate panel 0)

-- all of them, on slices of n words each
abbrev pub every_call : ℕ → ℕ → ℕ → ℕ → ℕ → List Row
every_call rowwords rows width n number =
    let shape = shape_of rowwords rows width in
    (painting shape n origin letter, number)
    ∷ (fresh_number shape (lent_sheet n n), number)
    ∷ (gathering shape n n origin letter, number)
    ∷ (joining shape n n n n, number)
    ∷ (applying shape n n n, number)
    ∷ []

-- "8: R not 1..128, H not 1..256, W not 1..64, 32W > 16R, or a lent panel or sheet slice under R × H words". Where R is under 2, 32W is
-- over 16R for every W from 1 on, so 2 is the least R that is accepted; and where W is over 64, R would have to be over 128.
unfoldable pub shape_limits : List Row
shape_limits =
    every_call 0 1 1 2 8
    ++ every_call 0 1 0 2 8
    ++ every_call 1 1 1 2 8
    ++ every_call 2 1 1 2 0
    ++ every_call 128 1 1 128 0
    ++ every_call 129 1 1 129 8
    ++ every_call 2 0 1 2 8
    ++ every_call 2 256 1 512 0
    ++ every_call 2 257 1 514 8
    ++ every_call 2 1 0 2 8
    ++ every_call 128 1 64 128 0
    ++ every_call 128 1 65 128 8
    ++ every_call 129 1 64 129 8
    ++ every_call 8 1 4 8 0
    ++ every_call 8 1 5 8 8
    ++ every_call 9 1 4 9 0
    ++ every_call 7 1 4 7 8
    -- room for 31 strips, and for 32
    ++ every_call 31 1 16 31 8
    ++ every_call 32 1 16 32 0

abbrev pub three_rows : Shape
three_rows = shape_of 2 3 1

unfoldable pub slice_limits : List Row
slice_limits =
    every_call 2 3 1 6 0
    ++ every_call 2 3 1 7 0
    ++ (painting three_rows 5 origin letter, 8)
    ∷ (painting (shape_of 128 256 64) 32768 origin letter, 0)
    ∷ (painting (shape_of 128 256 64) 32767 origin letter, 8)
    ∷ (fresh_number three_rows (lent_sheet 5 6), 8)
    ∷ (fresh_number three_rows (lent_sheet 6 5), 8)
    ∷ (gathering three_rows 5 6 origin letter, 8)
    ∷ (gathering three_rows 6 5 origin letter, 8)
    ∷ (joining three_rows 5 6 6 6, 8)
    ∷ (joining three_rows 6 5 6 6, 8)
    ∷ (joining three_rows 6 6 5 6, 8)
    ∷ (joining three_rows 6 6 6 5, 8)
    ∷ (applying three_rows 5 6 6, 8)
    ∷ (applying three_rows 6 5 6, 8)
    ∷ (applying three_rows 6 6 5, 8)
    ∷ []

abbrev pub labelled : Label → List ℕ → ℕ → List Row
labelled label text number = (painting three_rows 6 label text, number) ∷ (gathering three_rows 6 6 label text, number) ∷ []

-- measuring, in words and in bytes
abbrev pub measured : ℤ → List ℕ → ℕ → List Row
measured x text number =
    (reply_number (measure_of kerned_file x text), number)
    ∷ (reply_number (measure_file (bytes_of kerned_file) x text), number)
    ∷ []

-- "9: strip over 31", "10: x or y not -1024..1023", "11: label over 64 bytes", "12: mode number over 2"
unfoldable pub label_limits : List Row
label_limits =
    labelled (label_of 31 (pos 0) (pos 0) 0) letter 0
    ++ labelled (label_of 32 (pos 0) (pos 0) 0) letter 9
    ++ labelled (label_of 0 (negsuc 1024) (pos 0) 0) letter 10
    ++ labelled (label_of 0 (negsuc 1023) (pos 0) 0) letter 0
    ++ labelled (label_of 0 (pos 1023) (pos 0) 0) letter 0
    ++ labelled (label_of 0 (pos 1024) (pos 0) 0) letter 10
    ++ labelled (label_of 0 (pos 0) (negsuc 1024) 0) letter 10
    ++ labelled (label_of 0 (pos 0) (negsuc 1023) 0) letter 0
    ++ labelled (label_of 0 (pos 0) (pos 1023) 0) letter 0
    ++ labelled (label_of 0 (pos 0) (pos 1024) 0) letter 10
    ++ labelled origin (replicate 64 65) 0
    ++ labelled origin (replicate 65 65) 11
    ++ labelled (label_of 0 (pos 0) (pos 0) 2) letter 0
    ++ labelled (label_of 0 (pos 0) (pos 0) 3) letter 12

unfoldable pub measure_limits : List Row
measure_limits =
    measured (negsuc 1024) letter 10
    ++ measured (negsuc 1023) letter 0
    ++ measured (pos 1023) letter 0
    ++ measured (pos 1024) letter 10
    ++ measured (pos 0) (replicate 64 65) 0
    ++ measured (pos 0) (replicate 65 65) 11

unfoldable pub call_limits : List Row
call_limits = shape_limits ++ slice_limits ++ label_limits ++ measure_limits

-- Bytes, and CU files

-- a CU file of one row and one word a row, in which code 65 has one dot
unfoldable pub one_dot : List ℕ
one_dot = 1 ∷ 1 ∷ 65 ∷ 2 ∷ 0x8000 ∷ []

abbrev pub converts : List ℕ → ℕ → Row
converts cu number = (cu_number cu 32768, number)

-- "14: an odd number of bytes where words are read from bytes". No byte at all is even.
unfoldable pub odd_limits : List Row
odd_limits =
    (file_number (bytes_of kerned_file), 0)
    ∷ (file_number (bytes_of kerned_file ++ 0 ∷ []), 14)
    ∷ (file_number (take 41 (bytes_of kerned_file)), 14)
    ∷ (file_number (bytes_of plain_file), 0)
    ∷ (file_number (bytes_of plain_file ++ 0 ∷ []), 14)
    ∷ (file_number (0x90 ∷ []), 14)
    ∷ (file_number [], 1)
    ∷ (reply_number (measure_file (bytes_of kerned_file) (pos 0) letter), 0)
    ∷ (reply_number (measure_file (bytes_of kerned_file ++ 0 ∷ []) (pos 0) letter), 14)
    ∷ (reply_number (measure_file (take 41 (bytes_of kerned_file)) (pos 0) letter), 14)
    ∷ (program_number (bytes_of one_dot), 0)
    ∷ (program_number (bytes_of one_dot ++ 0 ∷ []), 14)
    ∷ (program_number (take 9 (bytes_of one_dot)), 14)
    ∷ []

-- "20: CU under 2 words, H not 1..128, WW not 1..16". A file of no character that passes it, and 21 and 22, has no code 65: 23.
unfoldable pub cu_size_limits : List Row
cu_size_limits =
    converts [] 20
    ∷ converts (1 ∷ []) 20
    ∷ converts (1 ∷ 1 ∷ []) 23
    ∷ converts (0 ∷ 1 ∷ []) 20
    ∷ converts (128 ∷ 1 ∷ []) 23
    ∷ converts (129 ∷ 1 ∷ []) 20
    ∷ converts (1 ∷ 0 ∷ []) 20
    ∷ converts (1 ∷ 16 ∷ []) 23
    ∷ converts (1 ∷ 17 ∷ []) 20
    -- the tallest and the widest with a character: a dot in the last row, and one in the last column
    ∷ converts (128 ∷ 1 ∷ 65 ∷ 2 ∷ replicate 127 0 ++ 0x8000 ∷ []) 0
    ∷ converts (1 ∷ 16 ∷ 65 ∷ 2 ∷ replicate 15 0 ++ 0x0001 ∷ []) 0
    ∷ []

-- "21: CU words after the first two are no multiple of 2 + H × WW"; the program: "Over 65,536 bytes is refused 21, before 14". 65,536 zeros
-- are a CU file of H = 0.
unfoldable pub cu_count_limits : List Row
cu_count_limits =
    converts one_dot 0
    ∷ converts (one_dot ++ 0 ∷ []) 21
    ∷ converts (take 4 one_dot) 21
    ∷ (program_number (replicate 65536 0), 20)
    ∷ (program_number (replicate 65537 0), 21)
    ∷ []

-- "22: a code over 255, or there twice", "23: no code 65 with a dot"
unfoldable pub cu_code_limits : List Row
cu_code_limits =
    converts (one_dot ++ 255 ∷ 2 ∷ 0x8000 ∷ []) 0
    ∷ converts (one_dot ++ 256 ∷ 2 ∷ 0x8000 ∷ []) 22
    ∷ converts (one_dot ++ 65 ∷ 2 ∷ 0x8000 ∷ []) 22
    ∷ converts (one_dot ++ 66 ∷ 2 ∷ 0x8000 ∷ 66 ∷ 2 ∷ 0x8000 ∷ []) 22
    ∷ converts (one_dot ++ 66 ∷ 2 ∷ 0x8000 ∷ 67 ∷ 2 ∷ 0x8000 ∷ []) 0
    ∷ converts (1 ∷ 1 ∷ 66 ∷ 2 ∷ 0x8000 ∷ []) 23
    ∷ converts (1 ∷ 1 ∷ 65 ∷ 2 ∷ 0x0000 ∷ []) 23
    ∷ converts (1 ∷ 1 ∷ 65 ∷ 2 ∷ 0x0001 ∷ []) 0
    ∷ []

-- code 65 with a dot in the first column of sixteen words, and code 66 with one in the last word: 0001 is 255 columns to its right
abbrev pub far_right : ℕ → ℕ → List ℕ
far_right spacing last = 1 ∷ 16 ∷ 65 ∷ 2 ∷ 0x8000 ∷ replicate 15 0 ++ 66 ∷ spacing ∷ replicate 15 0 ++ last ∷ []

-- "24: a spacing over 255, or offset and spacing both 255"
unfoldable pub spacing_limits : List Row
spacing_limits =
    converts (set one_dot 3 255) 0
    ∷ converts (set one_dot 3 256) 24
    ∷ converts (far_right 254 0x0001) 0
    ∷ converts (far_right 255 0x0001) 24
    ∷ converts (far_right 255 0x0002) 0
    ∷ []

-- What no small CU file has is asked of a drawing: codes 65 and `last` are there, and code 65 alone has columns.
abbrev pub drawing_with : ℕ → ℕ → ℕ → ℕ → ℕ → ℕ → Drawing
drawing_with last spacing offset columns box rows =
    record {
      present = λ c. eqb c 65 || eqb c last;
      spacing = λ c. spacing;
      offset = λ c. offset;
      columns = λ c. cond (eqb c 65) columns 0;
      dot = λ c row column. 1;
      fbbox = 0;
      fbbdx = box;
      ascent = rows;
      descent = 0;
    }

-- "25: an offset over 255", "26: over 65,535 columns, or length over 65,535", "27: output slice too short". The columns are those of code
-- 65 and of the dummy, which has FBBdx. 259 × 253 is 65,527, so with one code the length is 65,535 and with two it is 65,536.
unfoldable pub drawing_limits : List Row
drawing_limits =
    (drawing_number (drawing_with 65 2 255 1 1 1) 32768, 0)
    ∷ (drawing_number (drawing_with 65 2 256 1 1 1) 32768, 25)
    ∷ (drawing_number (drawing_with 65 2 0 65534 1 1) 32768, 0)
    ∷ (drawing_number (drawing_with 65 2 0 65535 1 1) 32768, 26)
    ∷ (drawing_number (drawing_with 65 2 0 4143 1 253) 65545, 0)
    ∷ (drawing_number (drawing_with 66 2 0 4143 1 253) 65547, 26)
    -- 131 × 250 + 2 + 16 and 1,213 × 27 + 2 + 16 words, into the 32,768 that the program has
    ∷ (drawing_number (drawing_with 65 2 0 2095 1 250) 32768, 0)
    ∷ (drawing_number (drawing_with 65 2 0 19407 1 27) 32768, 27)
    ∷ []

-- the strike of one dot has 1 + 2 + 16 words
unfoldable pub room_limits : List Row
room_limits =
    (cu_number one_dot 19, 0)
    ∷ (cu_number one_dot 18, 27)
    ∷ (cu_number one_dot 0, 27)
    ∷ []

unfoldable pub cu_limits : List Row
cu_limits = odd_limits ++ cu_size_limits ++ cu_count_limits

unfoldable pub writing_limits : List Row
writing_limits = cu_code_limits ++ spacing_limits ++ drawing_limits ++ room_limits

-- The order: "The order is the table's, top to bottom, each only if the call has such an input."

-- A way to spoil a good input, and the number that it earns. A flaw may cut off the tables of a font, and then the flaws that stand in them
-- cannot stand beside it.
pub record Flaw (A : Type 0) : Type 0 where
  pub number : ℕ
  pub spoil : A → A
  pub cuts : Bool
  pub tabled : Bool

abbrev pub flaw : {A : Type 0} → ℕ → (A → A) → Flaw A
flaw number spoil = record { number = number; spoil = spoil; cuts = false; tabled = false }

module _ {A : Type 0} (number_of : A → ℕ) (good : A) where
  -- spoilt by the first flaw and one of the others, where both can stand
  unfoldable pub beside : Flaw A → List (Flaw A) → List Row
  beside first [] = []
  beside first (second ∷ others) =
      cond (first.cuts && second.tabled)
      (beside first others)
      ((number_of (first.spoil (second.spoil good)), first.number) ∷ beside first others)

  -- not spoilt at all, spoilt in one way, and in every two
  unfoldable pub in_order : List (Flaw A) → List Row
  in_order [] = (number_of good, 0) ∷ []
  in_order (first ∷ others) = (number_of (first.spoil good), first.number) ∷ beside first others ++ in_order others

-- a file of under 9 words, and a kerned one of under 13, has no pointers that could fall and no entry of the dummy
abbrev pub cut_to : ℕ → Flaw (List ℕ)
cut_to count = record { number = 1; spoil = take count; cuts = true; tabled = false }

abbrev pub in_tables : ℕ → ℕ → ℕ → Flaw (List ℕ)
in_tables number place w = record { number = number; spoil = λ file. set file place w; cuts = false; tabled = true }

abbrev pub put : ℕ → ℕ → ℕ → Flaw (List ℕ)
put number place w = flaw number (λ file. set file place w)

-- codes 256 and 257, which leaves the tables where they are
abbrev pub over_codes : Flaw (List ℕ)
over_codes = flaw 3 (λ file. set (set file 1 256) 2 257)

-- 2 is earned by the lowest bit, and 4 by a word among the first 8, so that it stands in a file cut to them: xoffset, or FBBox. A file that
-- is cut has the wrong length too, so 5 stands beside 1. No plain file earns 7.
unfoldable pub plain_flaws : List (Flaw (List ℕ))
plain_flaws =
    cut_to 8
    ∷ put 2 0 0x8001
    ∷ over_codes
    ∷ put 4 7 1
    ∷ put 5 4 11
    ∷ in_tables 6 11 4
    ∷ []

unfoldable pub kerned_flaws : List (Flaw (List ℕ))
kerned_flaws =
    cut_to 8
    ∷ put 2 0 0x9001
    ∷ cut_to 12
    ∷ over_codes
    ∷ put 4 4 256
    ∷ put 5 8 11
    ∷ in_tables 6 15 4
    ∷ in_tables 7 20 0xFFFF
    ∷ []

-- a label call: its font, bytes behind those of the font, where it is handed as bytes, and the rest
pub record Asked : Type 0 where
  pub font : List ℕ
  pub spare : List ℕ
  pub shape : Shape
  pub label : Label
  pub text : List ℕ

abbrev pub asked_with : List ℕ → Asked
asked_with font = record { font = font; spare = []; shape = three_rows; label = origin; text = letter }

abbrev pub on_font : Flaw (List ℕ) → Flaw Asked
on_font f =
    record {
      number = f.number;
      spoil = λ a. record { font = f.spoil a.font; spare = a.spare; shape = a.shape; label = a.label; text = a.text };
      cuts = f.cuts;
      tabled = f.tabled;
    }

abbrev pub on_label : ℕ → (Label → Label) → Flaw Asked
on_label number f =
    flaw number (λ a. record { font = a.font; spare = a.spare; shape = a.shape; label = f a.label; text = a.text })

abbrev pub byte_too_many : Flaw Asked
byte_too_many = flaw 14 (λ a. record { font = a.font; spare = 0 ∷ []; shape = a.shape; label = a.label; text = a.text })

abbrev pub wide_strips : Flaw Asked
wide_strips = flaw 8 (λ a. record { font = a.font; spare = a.spare; shape = shape_of 2 3 2; label = a.label; text = a.text })

abbrev pub far_x : Flaw Asked
far_x = on_label 10 (λ l. label_of l.strip (pos 1024) l.y l.mode)

abbrev pub long_text : Flaw Asked
long_text =
    flaw 11 (λ a. record { font = a.font; spare = a.spare; shape = a.shape; label = a.label; text = replicate 65 65 })

unfoldable pub paint_flaws : List (Flaw Asked)
paint_flaws =
    wide_strips
    ∷ on_label 9 (λ l. label_of 32 l.x l.y l.mode)
    ∷ far_x
    ∷ long_text
    ∷ on_label 12 (λ l. label_of l.strip l.x l.y 3)
    ∷ []

unfoldable pub measure_flaws : List (Flaw Asked)
measure_flaws = far_x ∷ long_text ∷ []

unfoldable pub painted_by : Asked → ℕ
painted_by a = reply_number (reply_of a.shape (6 ∷ []) (call_of a.font a.label a.text))

unfoldable pub measured_by : Asked → ℕ
measured_by a = reply_number (measure_file (bytes_of a.font ++ a.spare) a.label.x a.text)

unfoldable pub label_order : List Row
label_order =
    in_order painted_by (asked_with plain_file) (map on_font plain_flaws ++ paint_flaws)
    ++ in_order painted_by (asked_with kerned_file) (map on_font kerned_flaws ++ paint_flaws)
    ++ in_order measured_by (asked_with plain_file) (byte_too_many ∷ map on_font plain_flaws ++ measure_flaws)
    ++ in_order measured_by (asked_with kerned_file) (byte_too_many ∷ map on_font kerned_flaws ++ measure_flaws)

-- a conversion: the words of a CU file, bytes behind them, and the room of its output
pub record Source : Type 0 where
  pub cu : List ℕ
  pub spare : List ℕ
  pub room : ℕ

-- Code 66 stands first, so that its code and spacing are where they are whatever H says.
abbrev pub two_dots : Source
two_dots = record { cu = 1 ∷ 1 ∷ 66 ∷ 2 ∷ 0x8000 ∷ 65 ∷ 2 ∷ 0x8000 ∷ []; spare = []; room = 32768 }

abbrev pub on_cu : ℕ → (List ℕ → List ℕ) → Flaw Source
on_cu number f = flaw number (λ s. record { cu = f s.cu; spare = s.spare; room = s.room })

abbrev pub behind : ℕ → List ℕ → Flaw Source
behind number bytes = flaw number (λ s. record { cu = s.cu; spare = bytes ++ s.spare; room = s.room })

unfoldable pub cu_flaws : List (Flaw Source)
cu_flaws =
    on_cu 20 (λ cu. set cu 0 0)
    ∷ on_cu 21 (λ cu. cu ++ 0 ∷ [])
    ∷ on_cu 22 (λ cu. set cu 2 256)
    ∷ on_cu 23 (λ cu. set cu 7 0)
    ∷ on_cu 24 (λ cu. set cu 3 256)
    ∷ []

abbrev pub no_output : Flaw Source
no_output = flaw 27 (λ s. record { cu = s.cu; spare = s.spare; room = 0 })

unfoldable pub converted_by : Source → ℕ
converted_by s = cu_number s.cu s.room

unfoldable pub printed_by : Source → ℕ
printed_by s = program_number (bytes_of s.cu ++ s.spare)

-- 24 to 27 stand together in a drawing alone
pub record Plan : Type 0 where
  pub spacing : ℕ
  pub offset : ℕ
  pub columns : ℕ
  pub room : ℕ

abbrev pub good_plan : Plan
good_plan = record { spacing = 2; offset = 0; columns = 1; room = 19 }

unfoldable pub plan_flaws : List (Flaw Plan)
plan_flaws =
    flaw 24 (λ p. record { spacing = 256; offset = p.offset; columns = p.columns; room = p.room })
    ∷ flaw 25 (λ p. record { spacing = p.spacing; offset = 256; columns = p.columns; room = p.room })
    ∷ flaw 26 (λ p. record { spacing = p.spacing; offset = p.offset; columns = 65535; room = p.room })
    ∷ flaw 27 (λ p. record { spacing = p.spacing; offset = p.offset; columns = p.columns; room = 0 })
    ∷ []

unfoldable pub planned_by : Plan → ℕ
planned_by p = drawing_number (drawing_with 65 p.spacing p.offset p.columns 1 1) p.room

unfoldable pub conversion_order : List Row
conversion_order =
    in_order converted_by two_dots (cu_flaws ++ no_output ∷ [])
    ++ in_order printed_by two_dots (behind 21 (replicate 65538 0) ∷ behind 14 (0 ∷ []) ∷ cu_flaws)
    ++ in_order planned_by good_plan plan_flaws

unfoldable pub limits : List Row
limits = font_limits ++ call_limits ++ cu_limits ++ writing_limits ++ label_order ++ conversion_order
