-- Worked: releases written out by hand from document 02 (W9): which images bytes hold; and the operation with every byte of both buffers, exact,
-- longer and too short, with refused images among others, and refused.
use Rattle.std.specs.Prelude.{◌≡◌, refl, List, [], ◌∷◌, ◌++◌, map, ℕ, length, replicate, Option, None, Some}
use Rattle.leaves.specs.Signed.{wrap, add_i32}
use Rattle.cells.specs.Assembler.{cell, Head, Label, LoadI32, LoadBool, LoadQ, AddI32, QTruthNot, Ret, RetNothing, site, no_site, StoreVarSited, MakeRecord, Borrow, Write, function}
use Rattle.cells.specs.Cells.{over}
use Rattle.cells.specs.Check.{instruction_check, event_check, head_check}
use Rattle.cells.specs.Functions.{functions}
use Rattle.cells.specs.Refusals.{numbered}
use Rattle.cells.specs.Table.{rows, class_of}
use Rattle.cells.specs.View.{view, load_cell}
use Rattle.sites.specs.Sites.{site_of, event_site, site_by}
use Rattle.sites.specs.Validators.{repeat_answer, activation_answer, judge_by}
use Rattle.cleanup.specs.Cleanup.{clean_function, clean_code, clean_events, clean_count}
use Rattle.crystalfold.specs.Rules.{default_table, default_rules}
use Rattle.crystalfold.specs.Fold.{note}
use Rattle.crystalfold.specs.CrystalFold.{fold_function, fold_code, folds_of}
use Rattle.image.specs.Image.{image_answer}
use Rattle.image.specs.SiteCheck.{site_answer}
use Rattle.passes.specs.Passes.{pass_bytes, pass_count, pass_check, pass_answer, pass_output}
use Rattle.release.specs.Frames.{Image, framed, images_within, images_of}
use Rattle.release.specs.Release.{admitted, release_answer, release_output, release_answers}
use Rattle.release.specs.Promises.{Reply, success, refusal, reply_of}

-- four bytes, the lowest first
abbrev pub four : ℕ → ℕ → ℕ → ℕ → List ℕ
four a b c d = a ∷ b ∷ c ∷ d ∷ []

-- ---- which images bytes hold

pub record FramesCase : Type 0 where
  pub bytes : List ℕ
  pub images : Option (List Image)

abbrev pub holds : List ℕ → List Image → FramesCase
holds s is = record { bytes = s; images = Some is }

abbrev pub holds_none : List ℕ → FramesCase
holds_none s = record { bytes = s; images = None }

abbrev pub frames : List FramesCase
frames =
    -- none, an empty one, one of two bytes, of 256 and of 65,536 bytes
    holds [] []
    ∷ holds (four 0 0 0 0) ([] ∷ [])
    ∷ holds (four 2 0 0 0 ++ 7 ∷ 8 ∷ []) ((7 ∷ 8 ∷ []) ∷ [])
    ∷ holds (four 0 1 0 0 ++ replicate 256 9) (replicate 256 9 ∷ [])
    ∷ holds (four 0 0 1 0 ++ replicate 65536 9) (replicate 65536 9 ∷ [])
    -- several, in order; an empty one first, between and last; bytes that look like lengths
    ∷ holds (four 1 0 0 0 ++ 7 ∷ four 2 0 0 0 ++ 8 ∷ 9 ∷ []) ((7 ∷ []) ∷ (8 ∷ 9 ∷ []) ∷ [])
    ∷ holds (four 0 0 0 0 ++ four 1 0 0 0 ++ 7 ∷ []) ([] ∷ (7 ∷ []) ∷ [])
    ∷ holds (four 1 0 0 0 ++ 7 ∷ four 0 0 0 0 ++ four 1 0 0 0 ++ 7 ∷ []) ((7 ∷ []) ∷ [] ∷ (7 ∷ []) ∷ [])
    ∷ holds (four 1 0 0 0 ++ 7 ∷ four 0 0 0 0) ((7 ∷ []) ∷ [] ∷ [])
    ∷ holds (four 8 0 0 0 ++ four 0 0 0 0 ++ four 0 0 0 0) ((four 0 0 0 0 ++ four 0 0 0 0) ∷ [])
    -- one to three bytes that are no length, alone and behind an image
    ∷ holds_none (0 ∷ [])
    ∷ holds_none (0 ∷ 0 ∷ [])
    ∷ holds_none (0 ∷ 0 ∷ 0 ∷ [])
    ∷ holds_none (four 0 0 0 0 ++ 0 ∷ [])
    ∷ holds_none (four 1 0 0 0 ++ 7 ∷ 0 ∷ 0 ∷ [])
    ∷ holds_none (four 1 0 0 0 ++ 7 ∷ 0 ∷ 0 ∷ 0 ∷ [])
    -- an image past the end: by one byte, wholly, the second one; a byte too many is no length
    ∷ holds_none (four 2 0 0 0 ++ 7 ∷ [])
    ∷ holds_none (four 1 0 0 0)
    ∷ holds_none (four 1 0 0 0 ++ 7 ∷ four 1 0 0 0)
    ∷ holds_none (four 1 0 0 0 ++ 7 ∷ 8 ∷ [])
    -- the highest byte last; the greatest lengths
    ∷ holds_none (four 0 0 0 1 ++ 7 ∷ [])
    ∷ holds_none (four 255 255 255 255)
    ∷ holds_none (four 252 255 255 255 ++ four 0 0 0 0)
    ∷ []

pub frames_hold : map (λ (c : FramesCase). record { bytes = c.bytes; images = images_of c.bytes }) frames ≡ frames
unfolding images_of images_within
frames_hold = refl

-- and how they stand there
pub framed_so :
    map framed ([] ∷ ([] ∷ []) ∷ ((7 ∷ []) ∷ [] ∷ (8 ∷ 9 ∷ []) ∷ []) ∷ (replicate 258 3 ∷ []) ∷ [])
    ≡ [] ∷ four 0 0 0 0 ∷ (four 1 0 0 0 ++ 7 ∷ four 0 0 0 0 ++ four 2 0 0 0 ++ 8 ∷ 9 ∷ []) ∷ (four 2 1 0 0 ++ replicate 258 3) ∷ []
framed_so = refl

-- ---- the operation

pub record ReleaseCase : Type 0 where
  pub release : List ℕ
  pub out : List ℕ
  pub answers : List ℕ
  pub reply : Reply
  pub out_after : List ℕ
  pub answers_after : List ℕ

abbrev pub releases : List ℕ → List ℕ → List ℕ → Reply → List ℕ → List ℕ → ReleaseCase
releases s out answers r out' answers' = record { release = s; out = out; answers = answers; reply = r; out_after = out'; answers_after = answers' }

-- 33, which changes no byte of either buffer
abbrev pub refuses : List ℕ → List ℕ → List ℕ → ReleaseCase
refuses s out answers = releases s out answers (refusal (numbered 33 0 0)) out answers

-- bytes of the lent output, and of the answers
abbrev pub lent : ℕ → List ℕ
lent n = replicate n 0xEE

abbrev pub blank : ℕ → List ℕ
blank n = replicate n 0xDD

-- an image's answer: so many rewrites; or number, position and detail, each below 256
abbrev pub rewrites : ℕ → List ℕ
rewrites n = four 0 0 0 0 ++ four n 0 0 0 ++ four 0 0 0 0

abbrev pub refused : ℕ → ℕ → ℕ → List ℕ
refused n p d = four n 0 0 0 ++ four p 0 0 0 ++ four d 0 0 0

-- the printed example, 64 bytes: LoadI32 r1 5, AddI32 r2 r1 r1, Ret r2
abbrev pub example : Image
example = function (LoadI32 1 5 ∷ AddI32 2 1 1 ∷ Ret 2 ∷ []) []

abbrev pub folded : Image
folded = Head 7 3 0 ++ LoadI32 1 5 ++ LoadI32 2 10 ++ Ret 2

-- 48 bytes, of which 32 are left: LoadI32 r1 5, LoadBool r1 true
abbrev pub loads : Image
loads = function (LoadI32 1 5 ∷ LoadBool 1 1 ∷ []) []

abbrev pub loaded : Image
loaded = Head 7 1 0 ++ LoadBool 1 1

-- 16 bytes that are no head
abbrev pub bad : Image
bad = cell []

-- of which one would change the other if anything were carried over: known registers; a label just kept; behind a Ret; a load overwritten
abbrev pub knows : Image
knows = function (LoadI32 1 5 ∷ []) []

abbrev pub asks : Image
asks = function (AddI32 2 1 1 ∷ []) []

abbrev pub labelled : Image
labelled = function (Label 1 ∷ []) []

abbrev pub ended : Image
ended = function (RetNothing ∷ []) []

abbrev pub table : List ReleaseCase
table =
    -- no image: nothing is written, whatever is lent
    releases [] [] [] (success 0) [] []
    ∷ releases [] (lent 5) (blank 13) (success 0) (lent 5) (blank 13)
    -- an empty image is a good one
    ∷ releases (four 0 0 0 0) (lent 4) (blank 12) (success 4) (four 0 0 0 0) (rewrites 0)
    ∷ releases (four 0 0 0 0 ++ four 0 0 0 0) (lent 8) (blank 24) (success 8) (four 0 0 0 0 ++ four 0 0 0 0) (rewrites 0 ++ rewrites 0)
    -- the printed example; longer buffers keep what stands behind what is written
    ∷ releases (four 64 0 0 0 ++ example) (lent 68) (blank 12) (success 68) (four 64 0 0 0 ++ folded) (rewrites 1)
    ∷ releases (four 64 0 0 0 ++ example) (lent 70) (blank 25) (success 68) (four 64 0 0 0 ++ folded ++ lent 2) (rewrites 1 ++ blank 13)
    -- a shorter image: the next one stands right behind it
    ∷ releases (four 48 0 0 0 ++ loads) (lent 52) (blank 12) (success 36) (four 32 0 0 0 ++ loaded ++ lent 16) (rewrites 1)
    ∷ releases (four 48 0 0 0 ++ loads ++ four 64 0 0 0 ++ example) (lent 120) (blank 24) (success 104)
    (four 32 0 0 0 ++ loaded ++ four 64 0 0 0 ++ folded ++ lent 16) (rewrites 1 ++ rewrites 1)
    ∷ releases (four 64 0 0 0 ++ example ++ four 48 0 0 0 ++ loads) (lent 120) (blank 24) (success 104)
    (four 64 0 0 0 ++ folded ++ four 32 0 0 0 ++ loaded ++ lent 16) (rewrites 1 ++ rewrites 1)
    -- a refused image leaves length 0 and no bytes: alone, first, between, last, all
    ∷ releases (four 16 0 0 0 ++ bad) (lent 20) (blank 12) (success 4) (four 0 0 0 0 ++ lent 16) (refused 2 0 0)
    ∷ releases (four 16 0 0 0 ++ bad ++ four 64 0 0 0 ++ example) (lent 88) (blank 24) (success 72)
    (four 0 0 0 0 ++ four 64 0 0 0 ++ folded ++ lent 16) (refused 2 0 0 ++ rewrites 1)
    ∷ releases (four 48 0 0 0 ++ loads ++ four 16 0 0 0 ++ bad ++ four 64 0 0 0 ++ example) (lent 140) (blank 36) (success 108)
    (four 32 0 0 0 ++ loaded ++ four 0 0 0 0 ++ four 64 0 0 0 ++ folded ++ lent 32) (rewrites 1 ++ refused 2 0 0 ++ rewrites 1)
    ∷ releases (four 64 0 0 0 ++ example ++ four 16 0 0 0 ++ bad) (lent 88) (blank 24) (success 72)
    (four 64 0 0 0 ++ folded ++ four 0 0 0 0 ++ lent 16) (rewrites 1 ++ refused 2 0 0)
    ∷ releases (four 16 0 0 0 ++ bad ++ four 1 0 0 0 ++ 9 ∷ []) (lent 25) (blank 24) (success 8) (four 0 0 0 0 ++ four 0 0 0 0 ++ lent 17) (refused 2 0 0 ++ refused 1 0 0)
    -- an odd length, and one above 65,536, are the image's own refusal 1
    ∷ releases (four 17 0 0 0 ++ 0xF0 ∷ replicate 16 0) (lent 21) (blank 12) (success 4) (four 0 0 0 0 ++ lent 17) (refused 1 0 0)
    ∷ releases (four 16 0 1 0 ++ replicate 65552 0 ++ four 64 0 0 0 ++ example) (lent 65624) (blank 24) (success 72)
    (four 0 0 0 0 ++ four 64 0 0 0 ++ folded ++ lent 65552) (refused 1 0 0 ++ rewrites 1)
    -- positions and cells are those within the image; a site may have four bytes
    ∷ releases (four 64 0 0 0 ++ example ++ four 96 0 0 0 ++ example ++ function (LoadI32 1024 5 ∷ []) []) (lent 168) (blank 24) (success 72)
    (four 64 0 0 0 ++ folded ++ four 0 0 0 0 ++ lent 96) (rewrites 1 ++ refused 4 1 5)
    ∷ releases (four 32 0 0 0 ++ function (MakeRecord (site 4294967295) ∷ []) []) (lent 36) (blank 12) (success 4)
    (four 0 0 0 0 ++ lent 32) (four 24 0 0 0 ++ four 0 0 0 0 ++ four 255 255 255 255)
    ∷ releases (four 32 0 0 0 ++ function (StoreVarSited (site 9) no_site ∷ []) []) (lent 36) (blank 12) (success 4) (four 0 0 0 0 ++ lent 32) (refused 14 0 0)
    ∷ releases (four 32 0 0 0 ++ function [] (Write no_site (site 66051) ∷ [])) (lent 36) (blank 12) (success 4)
    (four 0 0 0 0 ++ lent 32) (four 26 0 0 0 ++ four 0 0 0 0 ++ four 3 2 1 0)
    -- events go with an unreachable command
    ∷ releases (four 64 0 0 0 ++ function (RetNothing ∷ StoreVarSited (site 9) no_site ∷ []) (Borrow (site 9) no_site ∷ [])) (lent 68) (blank 12) (success 36)
    (four 32 0 0 0 ++ Head 7 1 0 ++ RetNothing ++ lent 32) (rewrites 1)
    -- the default rewrite: a truth-order quad stays
    ∷ releases (four 48 0 0 0 ++ function (LoadQ 1 1 ∷ QTruthNot 2 1 ∷ []) []) (lent 52) (blank 12) (success 52)
    (four 48 0 0 0 ++ function (LoadQ 1 1 ∷ QTruthNot 2 1 ∷ []) []) (rewrites 0)
    -- nothing is carried over: what one image knows, keeps or ends, and a load that the next image's would overwrite
    ∷ releases (four 32 0 0 0 ++ knows ++ four 32 0 0 0 ++ asks) (lent 72) (blank 24) (success 72)
    (four 32 0 0 0 ++ knows ++ four 32 0 0 0 ++ asks) (rewrites 0 ++ rewrites 0)
    ∷ releases (four 32 0 0 0 ++ labelled ++ four 32 0 0 0 ++ labelled) (lent 72) (blank 24) (success 72)
    (four 32 0 0 0 ++ labelled ++ four 32 0 0 0 ++ labelled) (rewrites 0 ++ rewrites 0)
    ∷ releases (four 32 0 0 0 ++ ended ++ four 32 0 0 0 ++ knows) (lent 72) (blank 24) (success 72)
    (four 32 0 0 0 ++ ended ++ four 32 0 0 0 ++ knows) (rewrites 0 ++ rewrites 0)
    ∷ releases (four 32 0 0 0 ++ knows ++ four 32 0 0 0 ++ knows) (lent 72) (blank 24) (success 72)
    (four 32 0 0 0 ++ knows ++ four 32 0 0 0 ++ knows) (rewrites 0 ++ rewrites 0)
    -- the same release twice over: both outputs, both answers
    ∷ releases (four 16 0 0 0 ++ bad ++ four 48 0 0 0 ++ loads ++ four 16 0 0 0 ++ bad ++ four 48 0 0 0 ++ loads) (lent 144) (blank 48) (success 80)
    (four 0 0 0 0 ++ four 32 0 0 0 ++ loaded ++ four 0 0 0 0 ++ four 32 0 0 0 ++ loaded ++ lent 64) (refused 2 0 0 ++ rewrites 1 ++ refused 2 0 0 ++ rewrites 1)
    -- 33: an output shorter than the input, though what is written would fit
    ∷ refuses (four 64 0 0 0 ++ example) (lent 67) (blank 12)
    ∷ refuses (four 48 0 0 0 ++ loads) (lent 51) (blank 12)
    ∷ refuses (four 16 0 0 0 ++ bad) (lent 19) (blank 12)
    ∷ refuses (four 0 0 0 0) [] (blank 12)
    -- fewer than 12 bytes an image, refused ones and empty ones counted
    ∷ refuses (four 64 0 0 0 ++ example) (lent 68) (blank 11)
    ∷ refuses (four 64 0 0 0 ++ example) (lent 68) []
    ∷ refuses (four 64 0 0 0 ++ example ++ four 16 0 0 0 ++ bad) (lent 88) (blank 23)
    ∷ refuses (four 0 0 0 0 ++ four 0 0 0 0) (lent 8) (blank 12)
    -- a length or an image past the end, also behind an image that is good, of which nothing is written
    ∷ refuses (0 ∷ []) (lent 1) (blank 12)
    ∷ refuses (four 65 0 0 0 ++ example) (lent 100) (blank 100)
    ∷ refuses (four 63 0 0 0 ++ example) (lent 100) (blank 100)
    ∷ refuses (four 64 0 0 0 ++ example ++ 0 ∷ []) (lent 100) (blank 100)
    ∷ refuses (four 64 0 0 0 ++ example ++ 0 ∷ 0 ∷ 0 ∷ []) (lent 100) (blank 100)
    ∷ refuses (four 64 0 0 0 ++ example ++ four 1 0 0 0) (lent 100) (blank 100)
    ∷ refuses (four 64 0 0 0 ++ example ++ four 255 255 255 255) (lent 100) (blank 100)
    ∷ refuses (four 0 0 0 64 ++ example) (lent 100) (blank 100)
    ∷ []

pub table-holds :
    map (λ (c : ReleaseCase). releases c.release c.out c.answers (reply_of (release_answer c.release (length c.out) (length c.answers)))
    (release_output c.release c.out (length c.answers)) (release_answers c.release (length c.out) c.answers)) table
    ≡ table
unfolding images_of images_within admitted release_answer release_output release_answers over functions instruction_check event_check head_check rows class_of view load_cell site_of event_site site_by repeat_answer activation_answer judge_by clean_function clean_code clean_events clean_count default_table default_rules note fold_function fold_code folds_of image_answer site_answer pass_bytes pass_count pass_check pass_answer pass_output wrap add_i32
table-holds = refl
