-- What a pass makes of two accepted images joined is what it makes of each, joined; and whose refusal a joined image gets.
use mathlib.Core.Path.{◌≡◌, refl, sym, ◌∙◌, ap, ap₂}
use mathlib.Core.Bool.{Bool, true, false, cond, ◌||◌, true≢false}
use mathlib.Core.List.{List, ◌++◌}
use Prim.Native.Nat.{ℕ, zero, suc, ◌+◌, ◌≤◌}
use native.Mathlib.Nat.{zero-add}
use native.Mathlib.Omega.{arith}
use borrow.Author.Tests.{lt-ltb, le-leb}
use lib.Dec.{ltb}
use lib.ListN.{length, take, length-append}
use Rattle.cells.specs.Answers.{or_else, unless}
use Rattle.cells.specs.Cells.{cells, flat, over}
use Rattle.cells.specs.Check.{max_image}
use Rattle.cells.specs.Functions.{Function, functions, cells_of_all}
use Rattle.cells.specs.declared.refusal.Refusal.{Refusal}
use Rattle.cells.specs.declared.refusal.Refusal.TheVariants.{Length, OutputTooShort}
use Rattle.cells.proofs.Cells.{flat_append}
use Rattle.cells.proofs.Over.{over-take}
use Rattle.crystalfold.specs.Rules.{rules_of}
use Rattle.rewrite.proofs.Append.{clean_append, fold-append, rewrite_append, clean_count_append, folds-append, rewrite_count_append}
use Rattle.image.specs.Image.{good_length, image_answer}
use Rattle.image.specs.SiteCheck.{site_answer, SitesPass}
use Rattle.image.specs.JoinedChecks.{refusal_behind, answer_behind}
use Rattle.image.proofs.Good.{image_good, site-good, functions_joined}
use Rattle.image.proofs.JoinedChecks.{checks_joined, cells_joined, parts_pass, passed_ends}
use Rattle.passes.specs.Passes.{pass_all, count_all, pass_bytes, pass_count, pass_check, answer_as, output_as, report, pass_answer, pass_output}
use Rattle.passes.specs.Promises.{is_written, length_written}
use Rattle.passes.specs.Joined.{Room, Accepted, RefusedFor, written, sum, InOrder, ImagesJoin, SecondRefused, SecondUnread, FirstRefused, ImagesPart, AcceptedEnds}
use Rattle.passes.specs.declared.Pass.{Pass}
use Rattle.passes.specs.declared.Pass.TheVariants.{Cleanup, CrystalFold, Both}
use Rattle.passes.proofs.Done.{check_good, pass_done}
use Rattle.passes.proofs.Answered.{run-refused}
use Rattle.std.specs.Prelude.{Ok, Err}
use Rattle.cells.specs.Checked.{Checked}
use Rattle.passes.specs.Rewrite.{Rewrite}

-- ---- the definitions over functions of both

pass_append : (p : Pass) (fs gs : List Function) → pass_all p (fs ++ gs) ≡ pass_all p fs ++ pass_all p gs
pass_append Cleanup fs gs = clean_append fs gs
pass_append (CrystalFold k) fs gs = fold-append (rules_of k) fs gs
pass_append (Both k) fs gs = rewrite_append (rules_of k) fs gs

count_append : (p : Pass) (fs gs : List Function) → count_all p (fs ++ gs) ≡ count_all p fs + count_all p gs
count_append Cleanup fs gs = clean_count_append fs gs
count_append (CrystalFold k) fs gs = folds-append (rules_of k) fs gs
count_append (Both k) fs gs = rewrite_count_append (rules_of k) fs gs

-- ---- on bytes

module _ (p : Pass) (s t : List ℕ) (g : SitesPass s) where
  bytes-append : pass_bytes p (s ++ t) ≡ pass_bytes p s ++ pass_bytes p t
  unfolding pass_bytes
  bytes-append =
      let fs = functions (cells s) in
      let gs = functions (cells t) in
      ap (λ (hs : List Function). flat (cells_of_all (pass_all p hs))) (functions_joined s t g.image)
      ∙ ap (λ (hs : List Function). flat (cells_of_all hs)) (pass_append p fs gs)
      ∙ ap flat (cells_joined (pass_all p fs) (pass_all p gs)) ∙ flat_append (cells_of_all (pass_all p fs)) (cells_of_all (pass_all p gs))

  counts-append : pass_count p (s ++ t) ≡ pass_count p s + pass_count p t
  unfolding pass_count
  counts-append = ap (count_all p) (functions_joined s t g.image) ∙ count_append p (functions (cells s)) (functions (cells t))

-- ---- an accepted image

module _ (p : Pass) (s u : List ℕ) where
  accepted : Accepted p s u → SitesPass s × (length s ≤ length u)
  accepted e = (pass_done p s u (pass_output p s u) (pass_answer p s (length u)) refl refl).accepted.0 e

  accepts : SitesPass s → length s ≤ length u → Accepted p s u
  accepts g l = (pass_done p s u (pass_output p s u) (pass_answer p s (length u)) refl refl).accepted.1 (g, l)

  again : Accepted p s u → SitesPass (written p s u)
  again e = (pass_done p s u (pass_output p s u) (pass_answer p s (length u)) refl refl).again e

module _ (p : Pass) (s u : List ℕ) (g : SitesPass s) (l : length s ≤ length u) where
  checked : pass_check s (length u) ≡ Ok tt
  checked = (check_good s (length u)).1 (g, l)

  answered : pass_answer p s (length u) ≡ Ok (record { length = (length (pass_bytes p s)); report = (report (pass_count p s)) })
  unfolding pass_answer
  answered = ap (λ (a : Checked). answer_as a (length (pass_bytes p s)) (pass_count p s)) checked

  held : pass_output p s u ≡ over (pass_bytes p s) u
  unfolding pass_output
  held = ap (λ (a : Checked). output_as a (pass_bytes p s) u) checked

  written_are : written p s u ≡ pass_bytes p s
  written_are = ap₂ (λ (a : Rewrite) (b : List ℕ). take (length_written a) b) answered held ∙ over-take (pass_bytes p s) u

-- ---- both accepted

joined_pass : (s t : List ℕ) → SitesPass s → SitesPass t → length s + length t ≤ max_image → SitesPass (s ++ t)
joined_pass s t g h l =
    (site-good (s ++ t)).0 ((checks_joined s t ((image_good s).1 g.image) l).behind_good ((site-good s).1 g) ∙ ap (answer_behind s) ((site-good t).1 h))

either_some : (m n : ℕ) → ltb 0 (m + n) ≡ (ltb 0 m || ltb 0 n)
either_some zero n = ap (ltb 0) (zero-add n)
either_some (suc m) n = rw (lt-ltb 0 (suc m + n) (omega arith), lt-ltb 0 (suc m) (omega arith))

sum-written : (n m a b : ℕ) → Ok (record { length = (n + m); report = (report (a + b)) }) ≡ sum (Ok (record { length = n; report = (report a) })) (Ok (record { length = m; report = (report b) }))
sum-written n m a b = ap (λ (c : Bool). Ok (record { length = (n + m); report = (record { changed = c; num_rewrites = a + b }) })) (either_some a b)

in_order : (p : Pass) (s t u v w : List ℕ) → Room s t u v w → Accepted p s u → Accepted p t v → InOrder p s t u v w
in_order p s t u v w room e f =
    let a = accepted p s u e in
    let b = accepted p t v f in
    let g : SitesPass (s ++ t) = joined_pass s t a.0 b.0 room.within in
    let l : length (s ++ t) ≤ length w = omega (arith, length-append s t, room.joined) in
    let x = bytes-append p s t a.0 in
    let ws = written_are p s u a.0 a.1 in
    let wt = written_are p t v b.0 b.1 in
    let both : pass_bytes p (s ++ t) ≡ written p s u ++ written p t v = x ∙ sym (ap₂ (λ (c d : List ℕ). c ++ d) ws wt) in
    let bytes : written p (s ++ t) w ≡ written p s u ++ written p t v = written_are p (s ++ t) w g l ∙ both in
    record {
      answer =
          answered p (s ++ t) w g l
          ∙ ap₂ (λ (n k : ℕ). Ok (record { length = n; report = (report k) })) (ap length x ∙ length-append (pass_bytes p s) (pass_bytes p t)) (counts-append p s t a.0)
          ∙ sum-written (length (pass_bytes p s)) (length (pass_bytes p t)) (pass_count p s) (pass_count p t)
          ∙ sym (ap₂ sum (answered p s u a.0 a.1) (answered p t v b.0 b.1));
      bytes = bytes;
      output = held p (s ++ t) w g l ∙ ap (λ (c : List ℕ). over c w) both;
      functions_back = ap (λ (c : List ℕ). functions (cells c)) bytes ∙ functions_joined (written p s u) (written p t v) (again p s u e).image;
    }

pub joined : ImagesJoin
joined p s t u v w room e f = record {
  in_order = in_order p s t u v w room e f;
  other_way =
      in_order p t s v u w
      (record { first = room.second; second = room.first; joined = omega (arith, room.joined); within = omega (arith, room.within) })
      f e;
}

-- ---- one refused

-- with an output that is long enough an operation is refused as the site check, whose image check tests the length too
length-once : (b : Bool) (a v : Checked) → cond b (or_else (cond b a (Err Length)) v) (Err Length) ≡ or_else (cond b a (Err Length)) v
length-once true a v = refl
length-once false a v = refl

check_in : (s : List ℕ) (n : ℕ) → length s ≤ n → pass_check s n ≡ site_answer s
unfolding pass_check site_answer image_answer
check_in s n l =
    ap (λ (b : Bool). cond (good_length s) (or_else (unless b OutputTooShort) (site_answer s)) (Err Length)) (le-leb (length s) n l)
    ∙ length-once (good_length s) _ _

refused_check : (a : Checked) (n c : ℕ) (x : Refusal) → answer_as a n c ≡ Err x → a ≡ Err x
refused_check (Ok tt) n c x e = absurd (true≢false (ap is_written e))
refused_check (Err y) n c x e = cc

refused-by : (p : Pass) (s u : List ℕ) (x : Refusal) → pass_check s (length u) ≡ Err x → RefusedFor p s u x
refused-by p s u x e = let r = run-refused p s u refl e in record { answer = sym r.0; output = sym r.1 }

by-refused : (p : Pass) (s : List ℕ) (n : ℕ) (x : Refusal) → pass_answer p s n ≡ Err x → pass_check s n ≡ Err x
unfolding pass_answer
by-refused p s n x e = refused_check (pass_check s n) (length (pass_bytes p s)) (pass_count p s) x e

site-refused : (p : Pass) (s u : List ℕ) (x : Refusal) → length s ≤ length u → pass_answer p s (length u) ≡ Err x → site_answer s ≡ Err x
site-refused p s u x l e = sym (check_in s (length u) l) ∙ by-refused p s (length u) x e

-- the joined image, by the site check's answer
joined_refused : (p : Pass) (s t u v w : List ℕ) (x : Refusal) → Room s t u v w → site_answer (s ++ t) ≡ Err x → RefusedFor p (s ++ t) w x
joined_refused p s t u v w x room e = refused-by p (s ++ t) w x (check_in (s ++ t) (length w) (omega (arith, length-append s t, room.joined)) ∙ e)

pub second_refused : SecondRefused
second_refused p s t u v w x room e f =
    let g = (accepted p s u e).0 in
    joined_refused p s t u v w (refusal_behind s x) room
    ((checks_joined s t ((image_good s).1 g.image) room.within).behind_good ((site-good s).1 g) ∙ ap (answer_behind s) (site-refused p t v x room.second f))

pub second_unread : SecondUnread
second_unread p s t u v w x room g h =
    joined_refused p s t u v w (refusal_behind s x) room
    ((checks_joined s t g room.within).sites ∙ ap (λ (a : Checked). or_else (answer_behind s a) (or_else (site_answer s) (answer_behind s (site_answer t)))) h)

pub first-refused : FirstRefused
first-refused p s t u v w x room g h e =
    joined_refused p s t u v w x room
    ((checks_joined s t g room.within).sites
    ∙ ap₂ (λ (a b : Checked). or_else (answer_behind s a) (or_else b (answer_behind s (site_answer t)))) h (site-refused p s u x room.first e))

-- ---- the converse

pub parted : ImagesPart
parted p s t u v w l m e (k, f) =
    let a = accepted p (s ++ t) w e in
    let b = parts_pass s t a.0 k f in
    (accepts p s u b.0 l, accepts p t v b.1 m)

pub ends-function : AcceptedEnds
ends-function p s t u e = passed_ends s t (accepted p s u e).0
