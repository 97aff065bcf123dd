use Rattle.std.proofs.Common.{arith}
use Rattle.handover_core.proofs.Machines.{within-cores, within-buckets, duty-index, duty-hand}
use Rattle.handover_core.proofs.machine.Machine.duty.Goals as goal

pub index-requires-2 : goal.index-requires-2
index-requires-2 c =
    let i = c.self.inside in
    let lc = within-cores i c.args.self.now c.args.core c.self.view_is c.requires.core in
    let lb = within-buckets i c.args.self.now c.args.bucket c.self.view_is c.requires.bucket in
    let x = c.index.result.now.duties.ok in
    let n = duty-index i c.args.core c.args.bucket c.index.result.now c.self.invariant lc lb c.index.ensures in
    omega arith

pub returns : goal.returns
returns c =
    let i = c.self.inside in
    let lc = within-cores i c.args.self.now c.args.core c.self.view_is c.requires.core in
    let lb = within-buckets i c.args.self.now c.args.bucket c.self.view_is c.requires.bucket in
    duty-hand i c.args.self.now c.args.core c.args.bucket c.index.result.now c.index-2.result.now c.self.invariant c.self.view_is lc lb c.index.ensures c.index-2.ensures
