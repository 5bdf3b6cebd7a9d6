use Rattle.std.proofs.Common.{◌<◌, rules, zero-add}
use Rattle.std.proofs.lemmas.List.FromFn.{get_or-map-range_with_len}
use Rattle.lexer.specs.declared.class.Class.TheVariants.{Letter}
use Rattle.lexer.specs.Classes.{class}
use Rattle.lexer.proofs.class.looked_up.Goals as goal

pub returns : goal.returns
returns c =
    let byte : c.args.byte < 256 = search rules in
    rw c.requires (rw c.from.ensures (get_or-map-range_with_len class 0 256 c.args.byte c.args.byte Letter byte (zero-add _)))
