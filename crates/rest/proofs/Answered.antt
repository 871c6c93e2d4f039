-- What `rewrite_until_rest` answers and writes: by the answer of its check, and by what its two rounds write.
use mathlib.Core.Path.{◌≡◌, sym, ◌∙◌, ap, ap₂}
use mathlib.Core.List.{List}
use Prim.Native.Nat.{ℕ, ◌+◌, ◌*◌, ◌≤◌}
use native.Mathlib.Omega.{arith}
use lib.ListN.{length, replicate, take, length-replicate}
use Rattle.cells.specs.Check.{max_image}
use Rattle.cells.specs.Cells.{cells, over}
use Rattle.cells.specs.Functions.{functions}
use Rattle.cells.specs.declared.refusal.Refusal.{Refusal}
use Rattle.cells.proofs.Over.{over-take, length_over}
use Rattle.crystalfold.specs.declared.rules.RuleSet.{RuleSet}
use Rattle.image.specs.SiteCheck.{site_answer, SitesPass}
use Rattle.image.proofs.Good.{site-good}
use Rattle.passes.specs.Passes.{pass_all, count_all, pass_bytes, pass_count, pass_check, answer_as, output_as, report}
use Rattle.passes.specs.Steps.{AllWritten}
use Rattle.passes.specs.declared.Pass.TheVariants.{Both}
use Rattle.passes.specs.declared.Total.{Total}
use Rattle.passes.proofs.Done.{check_good, bytes-length, bytes_shorter, pass_few}
use Rattle.rest.specs.Rounds.{rest_bytes, rest_count, rest_answer, rest_output}
use Rattle.rest.specs.Promises.{RestDone}
use Rattle.rest.proofs.Rounds.{rounds_pass, rest_bytes_lem, rest_count_lem}
use Rattle.rest.proofs.Done.{rest_done}
use Rattle.std.specs.Prelude.{Ok, Err}
use Rattle.cells.specs.Checked.{Checked}

-- the memory is that of one image
one_image : (work : List ℕ) → work ≡ replicate max_image 0 → length work ≡ max_image
one_image work l = ap length l ∙ length-replicate {A = ℕ} max_image 0

-- a round wrote all functions of the image s over the start of an output
abbrev Wrote : RuleSet → List ℕ → List ℕ → List ℕ → Total → Type 0
Wrote k s before after t = AllWritten (pass_all (Both k) (functions (cells s))) (count_all (Both k) (functions (cells s))) before after t

-- after the second round, straight into the output: the sizes fit, and all is done
pub record Second (k : RuleSet) (s before : List ℕ) (t : Total) (after : List ℕ) (u : Total) : Type 0 where
  pub most : 16 * u.cells ≤ max_image
  pub counts : t.rewrites + u.rewrites ≤ 2 * max_image
  pub done : RestDone k s before after (Ok (record { length = (16 * u.cells); report = (report (t.rewrites + u.rewrites)) }))

-- after the first, in memory: what it wrote stands there, and the second can be made of it
pub record First (k : RuleSet) (s before work : List ℕ) (t : Total) : Type 0 where
  pub most : 16 * t.cells ≤ max_image
  pub room : 16 * t.cells ≤ length work
  pub ready : (site_answer (take (16 * t.cells) work) ≡ Ok tt) × (length (take (16 * t.cells) work) ≤ length before)
  pub second : (after : List ℕ) (u : Total) → Wrote k (take (16 * t.cells) work) before after u → Second k s before t after u

module _ (k : RuleSet) (s before : List ℕ) {a : Checked} (e : a ≡ pass_check s (length before)) where
  -- a refusal is handed on, and nothing is written
  pub rest-refused : {x : Refusal} → a ≡ Err x → RestDone k s before before (Err x)
  unfolding rest_answer rest_output
  rest-refused {x} f =
      let g : pass_check s (length before) ≡ Err x = sym e ∙ f in
      rest_done k s before before (Err x)
      (sym (ap (λ (c : Checked). answer_as c (length (rest_bytes k s)) (rest_count k s)) g))
      (sym (ap (λ (c : Checked). output_as c (rest_bytes k s) before) g))

  module _ (f : a ≡ Ok tt) where
    passes : SitesPass s
    passes = ((check_good s (length before)).0 (sym e ∙ f)).0

    enough : length s ≤ length before
    enough = ((check_good s (length before)).0 (sym e ∙ f)).1

    -- the first round has room in memory for one image
    pub first_ready : (work : List ℕ) → work ≡ replicate max_image 0 → (site_answer s ≡ Ok tt) × (length s ≤ length work)
    first_ready work l = ((site-good s).1 passes, omega (arith, one_image work l, passes.image.short))

    module _ (work work' : List ℕ) (l : work ≡ replicate max_image 0) (t : Total) (w : Wrote k s work work' t) where
      s₁ : List ℕ
      s₁ = pass_bytes (Both k) s

      first-size : 16 * t.cells ≡ length s₁
      unfolding s₁
      first-size = omega (arith, w.count, bytes-length (Both k) s passes)

      first_short : length s₁ ≤ length s
      unfolding s₁
      first_short = bytes_shorter (Both k) s passes

      first_room : 16 * t.cells ≤ length work'
      unfolding s₁ pass_bytes
      first_room =
          let n : length work ≡ max_image = one_image work l in
          omega (arith, first-size, first_short, passes.image.short, n, ap length w.bytes ∙ length_over s₁ work (omega (arith, first_short, passes.image.short, n)))

      first-bytes : take (16 * t.cells) work' ≡ s₁
      unfolding s₁ pass_bytes
      first-bytes = ap₂ (λ (n : ℕ) (u : List ℕ). take n u) first-size w.bytes ∙ over-take s₁ work

      first_count : t.rewrites ≡ pass_count (Both k) s
      unfolding pass_count
      first_count = w.rewrites

      first_passes : SitesPass s₁
      unfolding s₁
      first_passes = rounds_pass k s passes 1

      module _ (after : List ℕ) (u : Total) (v : Wrote k (take (16 * t.cells) work') before after u) where
        second_is : Wrote k s₁ before after u
        second_is = rw first-bytes at v

        second_size : 16 * u.cells ≡ length (pass_bytes (Both k) s₁)
        second_size = omega (arith, second_is.count, bytes-length (Both k) s₁ first_passes)

        second_count : u.rewrites ≡ pass_count (Both k) s₁
        unfolding pass_count
        second_count = second_is.rewrites

        rest-written : RestDone k s before after (Ok (record { length = (16 * u.cells); report = (report (t.rewrites + u.rewrites)) }))
        unfolding rest_answer rest_output s₁ pass_bytes
        rest-written =
            let g : pass_check s (length before) ≡ Ok tt = sym e ∙ f in
            let b : rest_bytes k s ≡ pass_bytes (Both k) s₁ = rest_bytes_lem k s passes in
            let c : rest_count k s ≡ t.rewrites + u.rewrites = omega (arith, rest_count_lem k s passes, first_count, second_count) in
            rest_done k s before after (Ok (record { length = (16 * u.cells); report = (report (t.rewrites + u.rewrites)) }))
            (ap₂ (λ (n m : ℕ). Ok (record { length = n; report = (report m) })) (second_size ∙ ap length (sym b)) (sym c) ∙ sym (ap (λ (x : Checked). answer_as x (length (rest_bytes k s)) (rest_count k s)) g))
            (second_is.bytes ∙ ap (λ (y : List ℕ). over y before) (sym b) ∙ sym (ap (λ (x : Checked). output_as x (rest_bytes k s) before) g))

        second_round : Second k s before t after u
        second_round = record {
          most = omega (arith, second_size, bytes_shorter (Both k) s₁ first_passes, first_short, passes.image.short);
          counts = omega (arith, first_count, second_count, pass_few k s, pass_few k s₁, first_short, passes.image.short);
          done = rest-written;
        }

      pub first_round : First k s before work' t
      first_round = record {
        most = omega (arith, first-size, first_short, passes.image.short);
        room = first_room;
        ready = rw first-bytes ((site-good s₁).1 first_passes, omega (arith, first_short, enough));
        second = second_round;
      }
