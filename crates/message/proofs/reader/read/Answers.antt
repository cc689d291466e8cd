-- `reader::read` goes by the kind: each arm has what its call ensures, for the only command of that kind.
use Rattle.message.specs.declared.kind.Kind.TheVariants as kind
use Rattle.message.proofs.Decoding.{decode_kind}
use Rattle.message.proofs.reader.read.Goals as goal

pub returns-in-Report : goal.returns-in-Report
returns-in-Report c = let e = decode_kind kind.Report c.args.command c.args.payload.now cc in cc

pub returns-in-Network : goal.returns-in-Network
returns-in-Network c = let e = decode_kind kind.Network c.args.command c.args.payload.now cc in cc
