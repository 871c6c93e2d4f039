-- Worked: runs of the program: an argument, an image or a packed form, and what goes to standard output and to standard error; `none` where the argument is no word.
-- Then `factor`: the words of its products, words that are no numbers, and numbers.
use Rattle.std.specs.Prelude.{◌≡◌, refl, List, [], ◌∷◌, ◌++◌, map, ℕ, replicate, Option, Some, None}
use Rattle.std.specs.Float.Ieee as Ieee
use Rattle.leaves.specs.Signed.{wrap, add_i32}
use Rattle.leaves.specs.Float.{float_of, bits_of, div_f64}
use Rattle.leaves.specs.Quads.{quad_of}
use Rattle.cells.specs.Assembler.{Head, LoadF64, LoadI32, LoadQ, AddI32, DivF64, QTruthNot, Ret, site, no_site, StoreVarSited, MakeRecord, Borrow, Write}
use Rattle.cells.specs.Cells.{Cell, flat}
use Rattle.cells.specs.Check.{instruction_check, event_check, head_check}
use Rattle.cells.specs.Functions.{functions}
use Rattle.cells.specs.Names.{command_names, event_names}
use Rattle.cells.specs.Table.{rows, class_of}
use Rattle.cells.specs.View.{view, load_cell}
use Rattle.sites.specs.Sites.{site_of, event_site, site_by}
use Rattle.sites.specs.Validators.{repeat_answer, activation_answer, judge_by}
use Rattle.cleanup.specs.Cleanup.{clean_code, clean_count, clean_events, clean_function}
use Rattle.crystalfold.specs.Rules.{default_table, default_rules, fuller_table, fuller_rules}
use Rattle.crystalfold.specs.Fold.{note}
use Rattle.crystalfold.specs.CrystalFold.{fold_code, folds_of, fold_function}
use Rattle.image.specs.Image.{image_answer}
use Rattle.image.specs.SiteCheck.{site_answer}
use Rattle.passes.specs.Passes.{pass_answer, pass_bytes, pass_check, pass_count}
use Rattle.listing.specs.Decimal.{decimal}
use Rattle.listing.specs.Places.{ascii}
use Rattle.listing.specs.Text.{cell_line, rewrites_line, rewritten_text, refused_text, refusal_text, good_text}
use Rattle.packed.specs.Form.{row_size, packed}
use Rattle.packed.specs.Reading.{read_cell, unpack_from, unpacked}
use Rattle.packed.specs.Operations.{pack_result}
use Rattle.pages.specs.Pages.{heading, cell_line as page_line, page_lines, pages_text}
use Rattle.rest.specs.Rounds.{rest_bytes, rest_count, rest_answer}
use Rattle.sealing.specs.Sealing.{numbering_answer, sealing_answer}
use Rattle.numbers.specs.Numbers.{number_in}
use Rattle.matchdesk.specs.Program.{Texts, on_output, on_error, asked_for, product_for, program_texts, factor_texts, rewrite_word, fuller_word, rest_word, bytes_word, check_word, pages_word, pack_word, unpack_word, seal_word}
use Rattle.matchdesk.specs.declared.Job.{Job}
use Rattle.matchdesk.specs.declared.product.Product.{Product}
use Rattle.matchdesk.specs.declared.product.Product.TheVariants.{Fx, I32}

pub done_for : Option Job → List ℕ → Option Texts
done_for (Some job) input = Some (program_texts job input)
done_for None input = None

pub record ProgramCase : Type 0 where
  pub argument : List ℕ
  pub input : List ℕ
  pub texts : Option Texts

abbrev pub case : List ℕ → List ℕ → Option Texts → ProgramCase
case argument input texts = record { argument = argument; input = input; texts = texts }

-- document 01's printed example, as sent and as rewritten
example : List Cell
example = Head 7 3 0 ∷ LoadI32 1 5 ∷ AddI32 2 1 1 ∷ Ret 2 ∷ []

rewritten : List Cell
rewritten = Head 7 3 0 ∷ LoadI32 1 5 ∷ LoadI32 2 10 ∷ Ret 2 ∷ []

-- document 02's LoadI32 r1 5, AddI32 r1 r1 r1 (W11)
overwritten : List Cell
overwritten = Head 7 2 0 ∷ LoadI32 1 5 ∷ AddI32 1 1 1 ∷ []

-- LoadQ r1 F, QTruthNot r2 r1, Ret r2
quads : List Cell
quads = Head 7 3 0 ∷ LoadQ 1 1 ∷ QTruthNot 2 1 ∷ Ret 2 ∷ []

-- LoadF64 r1 -0.0, DivF64 r2 r1 r1, Ret r2
zeros : List Cell
zeros = Head 7 3 0 ∷ LoadF64 1 0x8000000000000000 ∷ DivF64 2 1 1 ∷ Ret 2 ∷ []

-- LoadI32 r257 5, LoadI32 r1 7, AddI32 r1023 r257 r1, Ret r1023; and LoadI32 r1024 5
apart : List Cell
apart = Head 7 4 0 ∷ LoadI32 257 5 ∷ LoadI32 1 7 ∷ AddI32 1023 257 1 ∷ Ret 1023 ∷ []

beyond : List Cell
beyond = Head 7 1 0 ∷ LoadI32 1024 5 ∷ []

-- StoreVar with the activation site 9, and its Borrow event, in function 65,535
sited : List Cell
sited = Head 65535 1 1 ∷ StoreVarSited (site 9) no_site ∷ Borrow (site 9) no_site ∷ []

-- the packed forms of the example, and of the function with the site: an absent site keeps its zeros, and the spare bytes go
example_packed : List ℕ
example_packed =
    0xF0 ∷ 7 ∷ 0 ∷ 3 ∷ 0 ∷ 0 ∷ 0
    ∷ 0x2B ∷ 1 ∷ 0 ∷ 5 ∷ 0 ∷ 0 ∷ 0
    ∷ 0x13 ∷ 2 ∷ 0 ∷ 1 ∷ 0 ∷ 1 ∷ 0
    ∷ 0x0C ∷ 1 ∷ 2 ∷ 0
    ∷ []

sited_packed : List ℕ
sited_packed =
    0xF0 ∷ 0xFF ∷ 0xFF ∷ 1 ∷ 0 ∷ 1 ∷ 0
    ∷ 0x4D ∷ 0 ∷ 0 ∷ 0 ∷ 0 ∷ 1 ∷ 9 ∷ 0 ∷ 0 ∷ 0 ∷ 0 ∷ 0 ∷ 0 ∷ 0 ∷ 0
    ∷ 0 ∷ 1 ∷ 9 ∷ 0 ∷ 0 ∷ 0 ∷ 0 ∷ 0 ∷ 0 ∷ 0 ∷ 0 ∷ 0 ∷ 0 ∷ 0 ∷ 0
    ∷ []

-- the StoreVar without its event, which the site check refuses
unpaired : List Cell
unpaired = Head 7 1 0 ∷ StoreVarSited (site 9) no_site ∷ []

unpaired_packed : List ℕ
unpaired_packed =
    0xF0 ∷ 7 ∷ 0 ∷ 1 ∷ 0 ∷ 0 ∷ 0
    ∷ 0x4D ∷ 0 ∷ 0 ∷ 0 ∷ 0 ∷ 1 ∷ 9 ∷ 0 ∷ 0 ∷ 0 ∷ 0 ∷ 0 ∷ 0 ∷ 0 ∷ 0
    ∷ []

-- MakeRecord with the write site 4,294,967,295, and its Write event
made : List Cell
made = Head 7 1 1 ∷ MakeRecord (site 4294967295) ∷ Write no_site (site 4294967295) ∷ []

-- a head of function 7 that promises an instruction
promising : List ℕ
promising = 0xF0 ∷ 7 ∷ 0 ∷ 1 ∷ 0 ∷ 0 ∷ 0 ∷ []

-- `good`; `refused`, a number, 0 and a detail, as `refused 1 0 0`; `rewrites 1`, `rewrites 0`
good : List ℕ
good = 103 ∷ 111 ∷ 111 ∷ 100 ∷ 10 ∷ []

refused : ℕ → ℕ → List ℕ
refused number detail = 114 ∷ 101 ∷ 102 ∷ 117 ∷ 115 ∷ 101 ∷ 100 ∷ 32 ∷ number ∷ 32 ∷ 48 ∷ 32 ∷ detail ∷ 10 ∷ []

count : ℕ → List ℕ
count digit = 114 ∷ 101 ∷ 119 ∷ 114 ∷ 105 ∷ 116 ∷ 101 ∷ 115 ∷ 32 ∷ digit ∷ 10 ∷ []

pub cases : List ProgramCase
cases =
    -- the printed example: its text (whose lines listing/specs/Cases has by their bytes), its bytes, its check
    case rewrite_word (flat example) (Some (on_output (
    cell_line (Head 7 3 0) ++ cell_line (LoadI32 1 5) ++ cell_line (LoadI32 2 10) ++ cell_line (Ret 2) ++ count 49
    )))
    ∷ case bytes_word (flat example) (Some (on_output (flat rewritten)))
    ∷ case check_word (flat example) (Some (on_output good))
    -- by the fuller rewrite: the same; and a truth-order quad, which the default one leaves
    ∷ case fuller_word (flat example) (Some (on_output (
    cell_line (Head 7 3 0) ++ cell_line (LoadI32 1 5) ++ cell_line (LoadI32 2 10) ++ cell_line (Ret 2) ++ count 49
    )))
    ∷ case fuller_word (flat quads) (Some (on_output (
    cell_line (Head 7 3 0) ++ cell_line (LoadQ 1 1) ++ cell_line (LoadQ 2 2) ++ cell_line (Ret 2) ++ count 49
    )))
    ∷ case rewrite_word (flat quads) (Some (on_output (
    cell_line (Head 7 3 0) ++ cell_line (LoadQ 1 1) ++ cell_line (QTruthNot 2 1) ++ cell_line (Ret 2) ++ count 48
    )))
    ∷ case bytes_word (flat quads) (Some (on_output (flat quads)))
    -- until it rests: the last round's cells and the sum of the counts, where one rewrite leaves a load that is overwritten; and at rest as sent
    ∷ case rest_word (flat overwritten) (Some (on_output (cell_line (Head 7 1 0) ++ cell_line (LoadI32 1 10) ++ count 50)))
    ∷ case rewrite_word (flat overwritten) (Some (on_output (cell_line (Head 7 2 0) ++ cell_line (LoadI32 1 5) ++ cell_line (LoadI32 1 10) ++ count 49)))
    ∷ case rest_word (flat quads) (Some (on_output (
    cell_line (Head 7 3 0) ++ cell_line (LoadQ 1 1) ++ cell_line (QTruthNot 2 1) ++ cell_line (Ret 2) ++ count 48
    )))
    ∷ case rest_word [] (Some (on_output (count 48)))
    -- a division by zero: the same
    ∷ case fuller_word (flat zeros) (Some (on_output (
    cell_line (Head 7 3 0) ++ cell_line (LoadF64 1 0x8000000000000000) ++ cell_line (LoadF64 2 0x7FF8000000000000) ++ cell_line (Ret 2) ++ count 49
    )))
    ∷ case rewrite_word (flat zeros) (Some (on_output (
    cell_line (Head 7 3 0) ++ cell_line (LoadF64 1 0x8000000000000000) ++ cell_line (DivF64 2 1 1) ++ cell_line (Ret 2) ++ count 48
    )))
    ∷ case bytes_word (flat zeros) (Some (on_output (flat zeros)))
    -- registers past 255: 1,023 is the last, and 1,024 refuses 4
    ∷ case rewrite_word (flat apart) (Some (on_output (
    cell_line (Head 7 4 0) ++ cell_line (LoadI32 257 5) ++ cell_line (LoadI32 1 7) ++ cell_line (LoadI32 1023 12) ++ cell_line (Ret 1023) ++ count 49
    )))
    ∷ case check_word (flat apart) (Some (on_output good))
    ∷ case check_word (flat beyond) (Some (on_output (refused 52 49)))
    ∷ case bytes_word (flat beyond) (Some (on_error (refused 52 49)))
    -- the empty image is rewritten to the empty image
    ∷ case bytes_word [] (Some (on_output []))
    ∷ case check_word [] (Some (on_output good))
    -- one byte is no cell, and a head of 0 is none: only `bytes` says so on standard error
    ∷ case rewrite_word (0 ∷ []) (Some (on_output (refused 49 48)))
    ∷ case fuller_word (0 ∷ []) (Some (on_output (refused 49 48)))
    ∷ case fuller_word (replicate 16 0) (Some (on_output (refused 50 48)))
    ∷ case rest_word (0 ∷ []) (Some (on_output (refused 49 48)))
    ∷ case rest_word (replicate 16 0) (Some (on_output (refused 50 48)))
    ∷ case bytes_word (0 ∷ []) (Some (on_error (refused 49 48)))
    ∷ case check_word (replicate 16 0) (Some (on_output (refused 50 48)))
    ∷ case bytes_word (replicate 16 0) (Some (on_error (refused 50 48)))
    -- the pages: of the printed example, of a site with its event, of nothing; a refusal as of a rewrite, on standard output
    ∷ case pages_word (flat example) (Some (on_output (
    ascii "function 00007 page 001                                  " ++ 10 ∷ []
    ++ ascii "    0  LoadI32             010005000000000000000000000000" ++ 10 ∷ []
    ++ ascii "    1  AddI32              020001000100000000000000000000" ++ 10 ∷ []
    ++ ascii "    2  Ret                 010200000000000000000000000000" ++ 10 ∷ []
    )))
    ∷ case pages_word (flat sited) (Some (on_output (
    ascii "function 65535 page 001                                  " ++ 10 ∷ []
    ++ ascii "    0  StoreVar            000000000109000000000000000000" ++ 10 ∷ []
    ++ ascii "    1  Borrow              010900000000000000000000000000" ++ 10 ∷ []
    )))
    ∷ case pages_word [] (Some (on_output []))
    ∷ case pages_word (0 ∷ []) (Some (on_output (refused 49 48)))
    ∷ case pages_word (replicate 16 0) (Some (on_output (refused 50 48)))
    ∷ case pages_word (flat beyond) (Some (on_output (refused 52 49)))
    -- the packed form and back: of the printed example, of a site with its event, without it (sites are not checked), of nothing
    ∷ case pack_word (flat example) (Some (on_output example_packed))
    ∷ case unpack_word example_packed (Some (on_output (flat example)))
    ∷ case pack_word (flat sited) (Some (on_output sited_packed))
    ∷ case unpack_word sited_packed (Some (on_output (flat sited)))
    ∷ case pack_word (flat unpaired) (Some (on_output unpaired_packed))
    ∷ case unpack_word unpaired_packed (Some (on_output (flat unpaired)))
    ∷ case pack_word [] (Some (on_output []))
    ∷ case unpack_word [] (Some (on_output []))
    -- their refusals, on standard error: an image as of `bytes`
    ∷ case pack_word (0 ∷ []) (Some (on_error (refused 49 48)))
    ∷ case pack_word (replicate 16 0) (Some (on_error (refused 50 48)))
    ∷ case pack_word (flat beyond) (Some (on_error (refused 52 49)))
    ∷ case pack_word example_packed (Some (on_error (refused 49 48)))
    -- a packed form: a first byte F1; the command 52 with nothing behind it; the register 1,024; what is left behind a function
    ∷ case unpack_word (0xF1 ∷ 7 ∷ 0 ∷ 1 ∷ 0 ∷ 0 ∷ 0 ∷ []) (Some (on_error (refused 50 48)))
    ∷ case unpack_word (promising ++ 0x52 ∷ []) (Some (on_error (refused 51 49)))
    ∷ case unpack_word (promising ++ 0x2B ∷ 0 ∷ 4 ∷ 5 ∷ 0 ∷ 0 ∷ 0 ∷ []) (Some (on_error (refused 52 49)))
    ∷ case unpack_word (example_packed ++ replicate 7 0) (Some (on_error (ascii "refused 2 1 4" ++ 10 ∷ [])))
    -- an end before a promised cell, inside one, inside a head, and inside a head behind a function
    ∷ case unpack_word promising (Some (on_error (ascii "refused 32 0 1" ++ 10 ∷ [])))
    ∷ case unpack_word (promising ++ 0x2B ∷ 0 ∷ 4 ∷ 5 ∷ 0 ∷ 0 ∷ []) (Some (on_error (ascii "refused 32 0 1" ++ 10 ∷ [])))
    ∷ case unpack_word (0xF0 ∷ []) (Some (on_error (ascii "refused 32 0 0" ++ 10 ∷ [])))
    ∷ case unpack_word (example_packed ++ 0 ∷ []) (Some (on_error (ascii "refused 32 1 4" ++ 10 ∷ [])))
    -- the sealing check: no numbers, one, two of different kinds; an activation number twice, a write number behind a function without cells, both;
    -- as the site check, and as the image check; `check` passes what it refuses by 34
    ∷ case seal_word [] (Some (on_output good))
    ∷ case seal_word (flat example) (Some (on_output good))
    ∷ case seal_word (flat (sited ++ made)) (Some (on_output good))
    ∷ case seal_word (flat (sited ++ sited)) (Some (on_output (ascii "refused 34 1 9" ++ 10 ∷ [])))
    ∷ case seal_word (flat (made ++ Head 7 0 0 ∷ made)) (Some (on_output (ascii "refused 35 2 4294967295" ++ 10 ∷ [])))
    ∷ case seal_word (flat (made ++ made ++ sited ++ sited)) (Some (on_output (ascii "refused 34 3 9" ++ 10 ∷ [])))
    ∷ case check_word (flat (sited ++ sited)) (Some (on_output good))
    ∷ case seal_word (flat (sited ++ sited ++ unpaired)) (Some (on_output (ascii "refused 14 2 0" ++ 10 ∷ [])))
    ∷ case seal_word (flat beyond) (Some (on_output (refused 52 49)))
    ∷ case seal_word (0 ∷ []) (Some (on_output (refused 49 48)))
    -- no word: none at all, `byte`, `checks`, `full`, `page`, `packs`, `npack`, `rests`, `res`, `seals`, `sea`
    ∷ case [] (flat example) None
    ∷ case (98 ∷ 121 ∷ 116 ∷ 101 ∷ []) (flat example) None
    ∷ case (check_word ++ 115 ∷ []) (flat example) None
    ∷ case (102 ∷ 117 ∷ 108 ∷ 108 ∷ []) (flat example) None
    ∷ case (112 ∷ 97 ∷ 103 ∷ 101 ∷ []) (flat example) None
    ∷ case (pack_word ++ 115 ∷ []) (flat example) None
    ∷ case (110 ∷ pack_word) example_packed None
    ∷ case (rest_word ++ 115 ∷ []) (flat example) None
    ∷ case (114 ∷ 101 ∷ 115 ∷ []) (flat example) None
    ∷ case (seal_word ++ 115 ∷ []) (flat example) None
    ∷ case (115 ∷ 101 ∷ 97 ∷ []) (flat example) None
    ∷ []

pub worked : map (λ (c : ProgramCase). case c.argument c.input (done_for (asked_for c.argument) c.input)) cases ≡ cases
unfolding numbering_answer sealing_answer done_for example rewritten overwritten quads zeros apart beyond sited example_packed sited_packed unpaired unpaired_packed made promising good refused count cases asked_for program_texts pass_answer pass_bytes pass_check pass_count rest_answer rest_bytes rest_count site_answer image_answer functions instruction_check event_check head_check rows site_of event_site site_by repeat_answer activation_answer judge_by clean_code clean_count clean_events clean_function fold_code folds_of fold_function default_rules default_table fuller_rules fuller_table note view load_cell quad_of class_of wrap add_i32 decimal rewrites_line rewritten_text refused_text refusal_text good_text float_of bits_of div_f64 Ieee.eq Ieee.div Ieee.of_bits Ieee.to_bits pages_text page_lines heading page_line command_names event_names pack_result packed row_size unpacked unpack_from read_cell
worked = refl

-- ---- the words of products

pub record ProductCase : Type 0 where
  pub word : List ℕ
  pub chosen : Option Product

abbrev pub names : List ℕ → Option Product → ProductCase
names word chosen = record { word = word; chosen = chosen }

pub product_cases : List ProductCase
product_cases =
    names (ascii "fx") (Some Fx)
    ∷ names (ascii "i32") (Some I32)
    ∷ names [] None
    ∷ names (ascii "f") None
    ∷ names (ascii "fx ") None
    ∷ names (ascii "Fx") None
    ∷ names (ascii "i3") None
    ∷ names (ascii "i320") None
    ∷ names (ascii " i32") None
    ∷ names (ascii "f64") None
    ∷ []

pub products_worked : map (λ (c : ProductCase). names c.word (product_for c.word)) product_cases ≡ product_cases
unfolding product_cases product_for
products_worked = refl

-- ---- `factor`, of words that are no numbers: the first of them is said; and of numbers

pub record FactorCase : Type 0 where
  pub product : Product
  pub wanted : List ℕ
  pub factor : List ℕ
  pub texts : Texts

abbrev pub asks : Product → List ℕ → List ℕ → Texts → FactorCase
asks product wanted factor texts = record { product = product; wanted = wanted; factor = factor; texts = texts }

wanted_wrong : Texts
wanted_wrong = on_error (ascii "WANTED is no i32: a whole number from -2147483648 to 2147483647" ++ 10 ∷ [])

factor_wrong : Texts
factor_wrong = on_error (ascii "FACTOR is no i32: a whole number from -2147483648 to 2147483647" ++ 10 ∷ [])

pub factor_cases : List FactorCase
factor_cases =
    asks Fx (ascii "1.5") (ascii "3000") wanted_wrong
    ∷ asks I32 (ascii "2147483648") (ascii "7") wanted_wrong
    ∷ asks I32 [] [] wanted_wrong
    ∷ asks Fx (ascii "x") (ascii "y") wanted_wrong
    ∷ asks Fx (ascii "1500") [] factor_wrong
    ∷ asks Fx (ascii "1500") (ascii "3000 ") factor_wrong
    ∷ asks I32 (ascii "-2147483648") (ascii "-2147483649") factor_wrong
    ∷ []

pub factors_worked : map (λ (c : FactorCase). asks c.product c.wanted c.factor (factor_texts c.product c.wanted c.factor)) factor_cases ≡ factor_cases
unfolding factor_cases wanted_wrong factor_wrong factor_texts number_in
factors_worked = refl

-- with an answer; the theorem is in matchdesk/proofs/Answered.antt, since the search isn't computed here
abbrev pub line : List ℕ → Texts
line text = on_output (text ++ 10 ∷ [])

unfoldable pub answered_cases : List FactorCase
answered_cases =
    asks Fx (ascii "2250") (ascii "1500") (line (ascii "1500"))
    ∷ asks Fx (ascii "1") (ascii "1999") (line (ascii "1"))
    ∷ asks Fx (ascii "1") (ascii "-1999") (line (ascii "-1"))
    ∷ asks Fx (ascii "1") (ascii "2000") (line (ascii "refused 36 0 0"))
    ∷ asks Fx (ascii "-0") (ascii "000") (line (ascii "0"))
    ∷ asks Fx (ascii "5") (ascii "0") (line (ascii "refused 36 0 0"))
    ∷ asks Fx (ascii "-2147483648") (ascii "+1000") (line (ascii "-2147483648"))
    ∷ asks Fx (ascii "-2147483648") (ascii "-1000") (line (ascii "refused 36 0 0"))
    ∷ asks I32 (ascii "-2147483648") (ascii "1073741824") (line (ascii "2"))
    ∷ asks I32 (ascii "1") (ascii "3") (line (ascii "-1431655765"))
    ∷ asks I32 (ascii "1") (ascii "2147483647") (line (ascii "2147483647"))
    ∷ asks I32 (ascii "7") (ascii "2") (line (ascii "refused 36 0 0"))
    ∷ []
