-- `cells::check::zeros_from` meets its contract: `all` says of each byte what `zeros` says of the list.
use Rattle.std.proofs.lemmas.Grind.{common_steps}
use Rattle.std.proofs.Common.{arith, ℕ, Bool, ◌&&◌, ◌∙◌, ◌≡◌, eqb, refl, rules, tests, drop}
use Rattle.std.proofs.lemmas.Iterator.{YieldsList-from_slice}
use Rattle.std.proofs.lemmas.Iterator.Search.{all_from_yields_List}
use Rattle.std.proofs.lemmas.List.Recursion.{same_from_clauses}
use Rattle.std.specs.List.{list_all}
use Rattle.cells.specs.Bytes.{zeros}
use Rattle.cells.proofs.check.zeros_from.Goals as goal

pub returns : goal.returns
returns c =
    let xs = drop c.args.at c.args.c.now in
    let h : c.iter.result.rest.now ≡ xs = grind (arith, common_steps, c.iter.ensures.rest) in
    let found = all_from_yields_List (λ (b : ℕ). eqb b 0) _ _ c.all.result c.all.ensures.ran (YieldsList-from_slice xs h) (λ x b q k. search (rules, tests)) in
    found ∙ same_from_clauses (list_all (λ (b : ℕ). eqb b 0)) zeros (λ (b : ℕ) (rest : Bool). eqb b 0 && rest) refl (λ _ _. refl) (λ _ _. refl) xs
