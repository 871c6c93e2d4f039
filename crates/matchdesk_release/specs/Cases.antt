-- Worked: what the program writes for releases written out by hand from document 02 (W9), on standard output and on standard error.
use Rattle.std.specs.Prelude.{◌≡◌, refl, List, [], ◌∷◌, ◌++◌, map, ℕ, replicate}
use Rattle.leaves.specs.Signed.{wrap, add_i32}
use Rattle.cells.specs.Assembler.{cell, Head, LoadI32, LoadBool, AddI32, Ret, site, MakeRecord, function}
use Rattle.cells.specs.Check.{instruction_check, event_check, head_check}
use Rattle.cells.specs.Functions.{functions}
use Rattle.cells.specs.Table.{rows, class_of}
use Rattle.cells.specs.View.{view, load_cell}
use Rattle.sites.specs.Sites.{site_of, event_site, site_by}
use Rattle.sites.specs.Validators.{repeat_answer, activation_answer, judge_by}
use Rattle.cleanup.specs.Cleanup.{clean_function, clean_code, clean_events, clean_count}
use Rattle.crystalfold.specs.Rules.{default_table, default_rules}
use Rattle.crystalfold.specs.Fold.{note}
use Rattle.crystalfold.specs.CrystalFold.{fold_function, fold_code, folds_of}
use Rattle.image.specs.Image.{image_answer}
use Rattle.image.specs.SiteCheck.{site_answer}
use Rattle.listing.specs.Decimal.{decimal}
use Rattle.listing.specs.Places.{ascii}
use Rattle.listing.specs.Text.{rewrites_line, refused_text}
use Rattle.passes.specs.Passes.{pass_bytes, pass_count, pass_check, pass_answer}
use Rattle.release.specs.Frames.{images_within, images_of}
use Rattle.matchdesk_release.specs.Program.{Texts, texts, image_line, image_texts, program_texts}

pub record ProgramCase : Type 0 where
  pub input : List ℕ
  pub said : Texts

abbrev pub case : List ℕ → List ℕ → List ℕ → ProgramCase
case input output error = record { input = input; said = texts output error }

-- four bytes, the lowest first
abbrev pub four : ℕ → ℕ → ℕ → ℕ → List ℕ
four a b c d = a ∷ b ∷ c ∷ d ∷ []

-- a line
abbrev pub line : List ℕ → List ℕ
line text = text ++ 10 ∷ []

-- the printed example, of 64 bytes; LoadI32 r1 5, LoadBool r1 true, of which 32 bytes are left; 16 bytes that are no head
abbrev pub example : List ℕ
example = function (LoadI32 1 5 ∷ AddI32 2 1 1 ∷ Ret 2 ∷ []) []

abbrev pub folded : List ℕ
folded = Head 7 3 0 ++ LoadI32 1 5 ++ LoadI32 2 10 ++ Ret 2

abbrev pub loads : List ℕ
loads = function (LoadI32 1 5 ∷ LoadBool 1 1 ∷ []) []

abbrev pub loaded : List ℕ
loaded = Head 7 1 0 ++ LoadBool 1 1

abbrev pub bad : List ℕ
bad = cell []

abbrev pub empties : ℕ → List ℕ
empties n = replicate n 0

abbrev pub cases : List ProgramCase
cases =
    -- no image, an empty one, the printed example
    case [] [] []
    ∷ case (four 0 0 0 0) (four 0 0 0 0) (line (ascii "0 rewrites 0"))
    ∷ case (four 64 0 0 0 ++ example) (four 64 0 0 0 ++ folded) (line (ascii "0 rewrites 1"))
    -- several, in order, with refused ones among them
    ∷ case (four 48 0 0 0 ++ loads ++ four 16 0 0 0 ++ bad ++ four 64 0 0 0 ++ example) (four 32 0 0 0 ++ loaded ++ four 0 0 0 0 ++ four 64 0 0 0 ++ folded)
    (line (ascii "0 rewrites 1") ++ line (ascii "1 refused 2 0 0") ++ line (ascii "2 rewrites 1"))
    ∷ case (four 1 0 0 0 ++ 9 ∷ four 96 0 0 0 ++ example ++ function (LoadI32 1024 5 ∷ []) []) (four 0 0 0 0 ++ four 0 0 0 0)
    (line (ascii "0 refused 1 0 0") ++ line (ascii "1 refused 4 1 5"))
    ∷ case (four 32 0 0 0 ++ function (MakeRecord (site 4294967295) ∷ []) []) (four 0 0 0 0) (line (ascii "0 refused 24 0 4294967295"))
    -- one longer than any image
    ∷ case (four 16 0 1 0 ++ replicate 65552 0) (four 0 0 0 0) (line (ascii "0 refused 1 0 0"))
    -- places of two digits
    ∷ case (empties 44) (empties 44)
    (line (ascii "0 rewrites 0") ++ line (ascii "1 rewrites 0") ++ line (ascii "2 rewrites 0") ++ line (ascii "3 rewrites 0")
    ++ line (ascii "4 rewrites 0") ++ line (ascii "5 rewrites 0") ++ line (ascii "6 rewrites 0") ++ line (ascii "7 rewrites 0")
    ++ line (ascii "8 rewrites 0") ++ line (ascii "9 rewrites 0") ++ line (ascii "10 rewrites 0"))
    -- 33, alone: a length or an image past the end, also behind good images
    ∷ case (0 ∷ []) [] (line (ascii "refused 33"))
    ∷ case (four 64 0 0 0 ++ example ++ 0 ∷ 0 ∷ 0 ∷ []) [] (line (ascii "refused 33"))
    ∷ case (four 65 0 0 0 ++ example) [] (line (ascii "refused 33"))
    ∷ case (four 64 0 0 0 ++ example ++ four 255 255 255 255) [] (line (ascii "refused 33"))
    ∷ case example [] (line (ascii "refused 33"))
    ∷ []

pub worked : map (λ (c : ProgramCase). record { input = c.input; said = program_texts c.input }) cases ≡ cases
unfolding images_of images_within image_line image_texts program_texts functions instruction_check event_check head_check rows class_of view load_cell site_of event_site site_by repeat_answer activation_answer judge_by clean_function clean_code clean_events clean_count default_table default_rules note fold_function fold_code folds_of image_answer site_answer pass_bytes pass_count pass_check pass_answer wrap add_i32 decimal rewrites_line refused_text
worked = refl
