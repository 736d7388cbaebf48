-- What the search through the rows finds.
use Rattle.std.proofs.Common.{rules, tests, ap, ◌∙◌, ◌≡◌, List, ℕ, option_map}
use Rattle.std.specs.List.{find}
use Rattle.std.proofs.lemmas.Iterator.{YieldsList-from_slice}
use Rattle.std.proofs.lemmas.Iterator.Search.{find_from_yields_List}
use Rattle.isis.proofs.IdentityLaws.{is_row, of_row, row_found}
use Rattle.isis.proofs.identities.router_of.Goals as goal

pub returns : goal.returns
returns c =
    let rows = c.as_chunks.result.0.now in
    let first : option_map (λ x. x.now) c.find.result ≡ find (is_row c.args.x) rows =
    find_from_yields_List (is_row c.args.x) _ _ c.find.result c.find.ensures.ran (YieldsList-from_slice rows cc)
    (λ x b q k. search (rules, tests)) in
    let same : c.map.result ≡ of_row (option_map (λ x. x.now) c.find.result) = search (rules, tests) in
    same
    ∙ ap of_row first
    ∙ ap (λ (x : List (List ℕ)). of_row (find (is_row c.args.x) x)) c.as_chunks.ensures.front
    ∙ row_found c.args.table.now c.args.x
