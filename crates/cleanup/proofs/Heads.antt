-- A function written: its head with new counts, and the cells behind it.
use mathlib.Core.Path.{◌≡◌, sym, ◌∙◌, ap, ap₂}
use mathlib.Core.List.{List, [], ◌++◌, append-nil}
use Prim.Native.Nat.{ℕ, ◌-◌, ◌/◌, ◌%◌, ◌≤◌, ◌<◌}
use native.Mathlib.Omega.{arith}
use lib.ListN.{length, set, take, drop, length-set, length-drop, drop_of_length-le}
use lib.Seq.{take_all, drop_at, length-take-le, set-append_left}
use Rattle.cells.specs.Cells.{Cell, cells, flat, over}
use Rattle.cells.specs.Functions.{function_of, new_head}
use Rattle.cells.proofs.Functions.{new_head-length}
use Rattle.cells.proofs.Over.{over-over}
use Rattle.cleanup.specs.Cleanup.{clean_code, clean_events, clean_function, clean_count}
use Rattle.cleanup.specs.Output.{PartsWritten, Holds}
use Rattle.cleanup.specs.declared.FunctionReport.{FunctionReport}
use Rattle.cleanup.proofs.CleanupCounts.{shorter, events_fewer}

set_first : (h t : List ℕ) (i x : ℕ) → i < 16 → length h ≡ 16 → set (h ++ t) i x ≡ set h i x ++ t
set_first h t i x l e = set-append_left h t i x (omega arith)

new_head-first : (h t : List ℕ) (n m : ℕ) → length h ≡ 16 → new_head (h ++ t) n m ≡ new_head h n m ++ t
new_head-first h t n m e =
    ap (λ (u : List ℕ). set (set (set u 4 (n / 256)) 5 (m % 256)) 6 (m / 256)) (set_first h t 3 (n % 256) (omega arith) e)
    ∙ ap (λ (u : List ℕ). set (set u 5 (m % 256)) 6 (m / 256)) (set_first h₁ t 4 (n / 256) (omega arith) (length-set h 3 (n % 256) ∙ e))
    ∙ ap (λ (u : List ℕ). set u 6 (m / 256)) (set_first h₂ t 5 (m % 256) (omega arith) (simp length-set e))
    ∙ set_first h₃ t 6 (m / 256) (omega arith) (simp length-set e)
  where
    h₁ : List ℕ
    h₁ = set h 3 (n % 256)

    h₂ : List ℕ
    h₂ = set h₁ 4 (n / 256)

    h₃ : List ℕ
    h₃ = set h₂ 5 (m % 256)

-- the cells behind the first 16 bytes, then the head over those
headed : (h x out₀ part o₁ o₂ o₃ : List ℕ) (n m : ℕ) → length h ≡ 16 → 16 ≤ length out₀
    → part ≡ over x (take (length out₀ - 16) (drop 16 out₀)) → o₁ ≡ take 16 out₀ ++ (part ++ drop (length out₀ - 16) (drop 16 out₀))
    → o₂ ≡ take 16 h ++ drop 16 o₁ → o₃ ≡ new_head o₂ n m → o₃ ≡ over (new_head h n m ++ x) out₀
headed h x out₀ part o₁ o₂ o₃ n m l r p e₁ e₂ e₃ =
    let k : length (drop 16 out₀) ≤ length out₀ - 16 = omega (arith, length-drop 16 out₀) in
    let i : length h ≤ 16 = omega arith in
    let q : part ≡ over x (drop 16 out₀) = p ∙ ap (over x) (take_all (length out₀ - 16) (drop 16 out₀) k) in
    let z : drop (length out₀ - 16) (drop 16 out₀) ≡ [] = drop_of_length-le (drop 16 out₀) k in
    let d : drop 16 o₁ ≡ over x (drop 16 out₀) =
    ap (drop 16) e₁ ∙ drop_at (take 16 out₀) (part ++ drop (length out₀ - 16) (drop 16 out₀)) 16 (length-take-le 16 out₀ r)
    ∙ ap₂ (λ (u v : List ℕ). u ++ v) q z ∙ append-nil (over x (drop 16 out₀)) in
    e₃ ∙ ap (λ (u : List ℕ). new_head u n m) (e₂ ∙ ap₂ (λ (u v : List ℕ). u ++ v) (take_all 16 h i) d) ∙ new_head-first h (over x (drop 16 out₀)) n m l
    ∙ ap (λ (j : ℕ). new_head h n m ++ over x (drop j out₀)) (sym (new_head-length h n m ∙ l)) ∙ over-over (new_head h n m) x out₀

-- the counts fit into a head
pub counts_few : {cs es : List Cell} {before after : List ℕ} {r : FunctionReport} → PartsWritten cs es before after r → (r.instructions ≤ length cs) × (r.events ≤ length es)
counts_few {cs} {es} w = (omega (arith, w.instructions, shorter cs), omega (arith, w.events, events_fewer cs es))

pub written-function : (h code evs out₀ part o₁ o₂ o₃ : List ℕ) (r : FunctionReport) → length h ≡ 16 → 16 ≤ length out₀
    → PartsWritten (cells code) (cells evs) (take (length out₀ - 16) (drop 16 out₀)) part r → o₁ ≡ take 16 out₀ ++ (part ++ drop (length out₀ - 16) (drop 16 out₀))
    → o₂ ≡ take 16 h ++ drop 16 o₁ → o₃ ≡ new_head o₂ r.instructions r.events → Holds (clean_function (function_of h code evs)) (clean_count (cells code)) out₀ o₃ r
unfolding clean_function
written-function h code evs out₀ part o₁ o₂ o₃ r l s w e₁ e₂ e₃ = record { bytes = b; instructions = w.instructions; events = w.events; rewrites = w.rewrites }
  where
    cs : List Cell
    cs = clean_code (cells code)

    es : List Cell
    es = clean_events (cells code) (cells evs)

    b : o₃ ≡ over (new_head h (length cs) (length es) ++ flat (cs ++ es)) out₀
    b = headed h (flat (cs ++ es)) out₀ part o₁ o₂ o₃ r.instructions r.events l s w.bytes e₁ e₂ e₃
        ∙ ap₂ (λ (n m : ℕ). over (new_head h n m ++ flat (cs ++ es)) out₀) w.instructions w.events
