-- A dispatcher as contracts see it.
use Rattle.toeplitz.specs.declared.key.Key.{Key}
use Rattle.balancer.specs.declared.policy_name.PolicyName.{PolicyName}
use Rattle.indirection.specs.Views.{TableView}
use Rattle.std.specs.Prelude.{ℕ, Bool, List, Option}
use Rattle.packet_fields.specs.declared.packet.PacketInfo.{PacketInfo}
use Rattle.indirection.specs.declared.proposal.Proposal.{Proposal}
use Rattle.indirection.specs.declared.move_order.MoveOrder.{MoveOrder}
use Rattle.indirection.specs.JournalView.{JournalState}
use Rattle.dispatch_loop.specs.declared.dispatcher_end.DispatcherEnd.{DispatcherEnd}
use Rattle.dispatch_loop.specs.Terms.{Terms}

-- its terms; of each bucket its owner, the start of its newest stint, and how many of its packets were sent; how many packets were sent in all, and the costs of those that were sent to each core; of each bucket the costs of its packets since the last multiple of the round length, and how many these packets are in all; the proposals and the orders that weren't tried yet; the journal, and whether memory was refused to it; the packet that was read and isn't sent yet; whether it keeps a cell for it; how the stream ended, if it did; and how many cores got their End
pub record DispatcherState : Type 0 where
  pub terms : Terms
  pub owners : List ℕ
  pub starts : List ℕ
  pub counts : List ℕ
  pub sent : ℕ
  pub sent_to : List ℕ
  pub loads : List ℕ
  pub since : ℕ
  pub proposals : List Proposal
  pub orders : List MoveOrder
  pub journal : JournalState
  pub short : Bool
  pub held : Option PacketInfo
  pub spare : Bool
  pub end : Option DispatcherEnd
  pub ends : ℕ

-- a dispatcher but for what a packet costs, which its type says: what it keeps of the options, and the fields of its state
pub record DispatcherView : Type 0 where
  pub key : Key
  pub start : TableView
  pub moves : List MoveOrder
  pub round : ℕ
  pub limit : ℕ
  pub policy : PolicyName
  pub packets : ℕ
  pub owners : List ℕ
  pub starts : List ℕ
  pub counts : List ℕ
  pub sent : ℕ
  pub sent_to : List ℕ
  pub loads : List ℕ
  pub since : ℕ
  pub proposals : List Proposal
  pub orders : List MoveOrder
  pub journal : JournalState
  pub short : Bool
  pub held : Option PacketInfo
  pub spare : Bool
  pub end : Option DispatcherEnd
  pub ends : ℕ

-- the state of a dispatcher, by what a packet costs under its work
abbrev pub dispatcher_state_by : (PacketInfo → ℕ) → DispatcherView → DispatcherState
dispatcher_state_by cost d = record {
  terms = record { key = d.key; start = d.start; moves = d.moves; round = d.round; limit = d.limit; policy = d.policy; packets = d.packets; cost = cost };
  owners = d.owners;
  starts = d.starts;
  counts = d.counts;
  sent = d.sent;
  sent_to = d.sent_to;
  loads = d.loads;
  since = d.since;
  proposals = d.proposals;
  orders = d.orders;
  journal = d.journal;
  short = d.short;
  held = d.held;
  spare = d.spare;
  end = d.end;
  ends = d.ends;
}
