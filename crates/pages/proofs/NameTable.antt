-- The table of names as the code has it: rows of 18 bytes one after another.
use mathlib.Core.Path.{◌≡◌, refl, sym, ap, ◌∙◌}
use mathlib.Core.List.{List, [], ◌∷◌, ◌++◌, map}
use Prim.Native.Nat.{ℕ, zero, suc, ◌+◌, ◌*◌, ◌<◌}
use Prim.Native.String.{String}
use native.Mathlib.Nat.{le_of_suc-le-suc, not-suc-le-zero}
use native.Mathlib.Omega.{arith}
use lib.Dec.{T, eqb, eqb→eq}
use lib.ListN.{length, get_or, take, drop, get_or-append}
use lib.Seq.{take_at, drop_at, drop-drop}
use Rattle.cells.specs.Bytes.{byte}
use Rattle.cells.specs.Cells.{Cell, flat}
use Rattle.cells.specs.Names.{command_names, event_names, name_of}
use Rattle.cells.specs.declared.walk.Part.{Part}
use Rattle.cells.specs.declared.walk.Part.TheVariants.{Code, Events}
use Rattle.cells.proofs.Every.{at_any}
use Rattle.cells.proofs.Every as every
use Rattle.listing.specs.Places.{ascii, fill}
use Rattle.pages.specs.Steps.{all_names, wide_name, name_table, name_row, Named}

-- every name fits
fits : T (every.every (λ (i : ℕ) (n : String). eqb (length (wide_name n)) 18) 0 all_names)
unfolding command_names event_names
fits = tt

pub name_count : length all_names ≡ 84
unfolding command_names event_names
name_count = refl

pub table-length : length name_table ≡ 1512
unfolding command_names event_names
table-length = refl

wide_at : (k : ℕ) → k < 84 → length (wide_name (get_or all_names k "")) ≡ 18
wide_at k h =
    eqb→eq (length (wide_name (get_or all_names k ""))) 18
    (at_any "" (λ (i : ℕ) (n : String). eqb (length (wide_name n)) 18) all_names fits k (omega (arith, name_count)))

-- rows of 18 bytes: the row k is the bytes from 18 * k on
row_at_lem : (ns : List String) (k : ℕ) → k < length ns → ((i : ℕ) → i < length ns → length (wide_name (get_or ns i "")) ≡ 18)
    → take 18 (drop (18 * k) (flat (map wide_name ns))) ≡ wide_name (get_or ns k "")
row_at_lem [] k h f = absurd (not-suc-le-zero h)
row_at_lem (n ∷ ns) zero h f = take_at (wide_name n) (flat (map wide_name ns)) 18 (f 0 (omega arith))
row_at_lem (n ∷ ns) (suc k) h f =
    let e : 18 * suc k ≡ 18 + 18 * k = omega arith in
    let rest = flat (map wide_name ns) in
    let d : drop (18 + 18 * k) (wide_name n ++ rest) ≡ drop (18 * k) rest =
    sym (drop-drop (18 * k) 18 (wide_name n ++ rest)) ∙ ap (drop (18 * k)) (drop_at (wide_name n) rest 18 (f 0 (omega arith))) in
    ap (λ (j : ℕ). take 18 (drop j (wide_name n ++ rest))) e ∙ ap (take 18) d
    ∙ row_at_lem ns k (le_of_suc-le-suc h) (λ i l. f (suc i) (omega arith))

-- ---- a cell's name

pub row_small : (p : Part) (c : Cell) → Named p c → name_row p c < 84
row_small Code c h = omega arith
row_small Events c h = omega arith

-- the names of the kinds stand behind those of the commands
kind_name : (k : ℕ) → k < 2 → get_or all_names (82 + k) "" ≡ get_or event_names k ""
unfolding command_names event_names
kind_name zero h = refl
kind_name (suc zero) h = refl
kind_name (suc (suc k)) h = absurd (omega arith)

command_count : length command_names ≡ 82
unfolding command_names
command_count = refl

pub row_name : (p : Part) (c : Cell) → Named p c → get_or all_names (name_row p c) "" ≡ name_of p c
row_name Code c h = get_or-append command_names event_names "" (byte c 0) (omega (arith, command_count))
row_name Events c h = kind_name (byte c 0) h

pub length_name : (p : Part) (c : Cell) → Named p c → length (fill 18 (ascii (name_of p c))) ≡ 18
length_name p c h = ap (λ (n : String). length (wide_name n)) (sym (row_name p c h)) ∙ wide_at (name_row p c) (row_small p c h)

pub table_at : (p : Part) (c : Cell) → Named p c → take 18 (drop (18 * name_row p c) name_table) ≡ fill 18 (ascii (name_of p c))
table_at p c h =
    row_at_lem all_names (name_row p c) (omega (arith, name_count, row_small p c h)) (λ i l. wide_at i (omega (arith, name_count)))
    ∙ ap wide_name (row_name p c h)
