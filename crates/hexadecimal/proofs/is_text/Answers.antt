use Rattle.std.proofs.Common.{rules, tests, ap, ◌∙◌, not}
use Rattle.std.proofs.lemmas.Iterator.{YieldsList-from_slice}
use Rattle.std.proofs.lemmas.Iterator.Search.{any_from_yields_List}
use Rattle.hexadecimal.specs.Hex.{is_control}
use Rattle.hexadecimal.proofs.BinaryLaws.{text_none}
use Rattle.hexadecimal.proofs.is_text.Goals as goal

pub returns : goal.returns
returns c =
    let found = any_from_yields_List is_control _ _ _ c.any.ensures.ran (YieldsList-from_slice c.args.bytes.now cc)
    (λ x b q k. search (rules, tests)) in
    record { answer = ap not found ∙ text_none c.args.bytes.now }
