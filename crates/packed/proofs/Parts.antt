-- The packed form goes function by function; and where a cell ends is decided by its first byte and by what it is.
use mathlib.Core.Path.{◌≡◌, refl, ap, sym, ◌∙◌}
use mathlib.Core.List.{List, [], ◌∷◌, ◌++◌, append_assoc, append-nil}
use Prim.Native.Nat.{ℕ, zero, suc, ◌+◌, ◌≤◌}
use native.Mathlib.Nat.{le_refl, le_of_suc-le-suc, not-suc-le-zero}
use native.Mathlib.Omega.{arith}
use lib.ListN.{length, take, drop, replicate, length-drop}
use lib.Seq.{drop-drop}
use Rattle.cells.specs.Cells.{Cell, cells}
use Rattle.cells.specs.Check.{code_count, event_count}
use Rattle.cells.specs.Functions.{function_at, functions, behind as past}
use Rattle.cells.proofs.Functions.{functions_nil, functions_cons}
use Rattle.packed.specs.Form.{Role, Head, Code, Event, promise, keep, pack_from, packed}
use Rattle.packed.specs.Claim.{FirstByteDecides, keep_all, pack_function, pack_functions, ByFunctions}
use Rattle.packed.proofs.Widths.{size-first}

pub first-byte_decides : FirstByteDecides
first-byte_decides = size-first

-- a run of cells of one role
run-packed : (r : Role) (n : ℕ) (due : List Role) (cs : List Cell) → pack_from (replicate n r ++ due) cs ≡ keep_all r (take n cs) ++ pack_from due (drop n cs)
run-packed r zero due cs = refl
run-packed r (suc n) due [] = refl
run-packed r (suc n) due (c ∷ cs) =
    ap (λ (t : List ℕ). keep r c ++ t) (run-packed r n due cs) ∙ sym (append_assoc (keep r c) (keep_all r (take n cs)) (pack_from due (drop n cs)))

promised_packed : (n m : ℕ) (cs : List Cell) → pack_from (promise n m) cs ≡ keep_all Code (take n cs) ++ (keep_all Event (take m (drop n cs)) ++ pack_from [] (drop (n + m) cs))
promised_packed n m cs =
    run-packed Code n (replicate m Event) cs
    ∙ ap (λ (t : List ℕ). keep_all Code (take n cs) ++ t)
    (ap (λ (due : List Role). pack_from due (drop n cs)) (sym (append-nil (replicate m Event))) ∙ run-packed Event m [] (drop n cs)
    ∙ ap (λ (ds : List Cell). keep_all Event (take m (drop n cs)) ++ pack_from [] ds) (drop-drop m n cs))

by_most : (k : ℕ) (cs : List Cell) → length cs ≤ k → pack_from [] cs ≡ pack_functions (functions cs)
by_most zero [] l = rw functions_nil
by_most zero (h ∷ cs) l = absurd (not-suc-le-zero l)
by_most (suc k) [] l = rw functions_nil
by_most (suc k) (h ∷ cs) l =
    let n = code_count h in
    let m = event_count h in
    let l2 : length (past h cs) ≤ k = omega (arith, length-drop (n + m) cs, le_of_suc-le-suc l) in
    let code = keep_all Code (take n cs) in
    let events = keep_all Event (take m (drop n cs)) in
    ap (λ (t : List ℕ). keep Head h ++ t) (promised_packed n m cs ∙ sym (append_assoc code events (pack_from [] (past h cs))))
    ∙ sym (append_assoc (keep Head h) (code ++ events) (pack_from [] (past h cs)))
    ∙ ap (λ (t : List ℕ). pack_function (function_at h cs) ++ t) (by_most k (past h cs) l2)
    ∙ sym (ap pack_functions (functions_cons h cs))

pub by-functions : ByFunctions
unfolding packed
by-functions s = by_most (length (cells s)) (cells s) (le_refl (length (cells s)))
