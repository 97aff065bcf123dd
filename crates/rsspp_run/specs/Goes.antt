-- The packets of a serial run, of which its dispatcher has sent some.
use Rattle.std.specs.Prelude.{◌≡◌, ◌≢◌, ℕ, List, [], ◌++◌, map, None}
use Rattle.packet_fields.specs.declared.packet.PacketInfo.{PacketInfo}
use Rattle.indirection.specs.Story.{Parcel}
use Rattle.dispatch_loop.specs.DispatcherState.{DispatcherState}
use Rattle.dispatch_loop.specs.Past.{parcels, held_list}
use Rattle.dispatch_loop.specs.Terms.{Terms, rules_of}
use Rattle.rsspp_run.specs.Serial.{Setting, RunState}

abbrev pub bucket_in : Parcel → ℕ
bucket_in q = q.bucket

-- the packets of the run are those that were sent, the one that is held, and others, if the stream goes on
pub record HasPacketsLeft (all sent : List PacketInfo) (e : DispatcherState) : Type 0 where
  pub rest : List PacketInfo
  pub is : all ≡ sent ++ (held_list e.held ++ rest)
  pub whole : e.end ≢ None → rest ≡ []

-- the setting of a run is of the dispatcher's terms and of these packets, and its machine has their buckets
pub record IsRunOf (all : List PacketInfo) (j : Setting) (r : RunState) (t : Terms) : Type 0 where
  pub rules : j.rules ≡ rules_of t
  pub parcels_are : j.parcels ≡ parcels t all
  pub packets_are : r.machine.packets ≡ map bucket_in j.parcels
