-- What is true of a state stays so over each enabled event, and over each run.
use Rattle.std.proofs.Common.{◌≡◌, List, [], ◌∷◌, true, false, sym, subst, arith}
use Rattle.handover_core.specs.declared.event.Event.{Event}
use Rattle.handover_core.specs.declared.event.Event.TheVariants.{Send, Look, Move, Place, SendEnd, Take, Claim, Release}
use Rattle.handover_core.specs.State.{MachineView}
use Rattle.handover_core.specs.Machine.{enabled, end_sent, step}
use Rattle.handover_core.specs.Runs.{Runs}
use Rattle.handover_core.specs.Sound.{IsSound}
use Rattle.handover_core.proofs.Enabled.{IsEnabled, is_enabled}
use Rattle.handover_core.proofs.Ends.{not-sent-end}
use Rattle.handover_core.proofs.Streamed.{send-streamed, move-streamed, place-streamed, send_end-streamed, take-streamed, claim-streamed, release-streamed, look-streamed}
use Rattle.handover_core.proofs.Shaped.{send-shaped, move-shaped, place-shaped, look-shaped, send_end-shaped, take-shaped, claim-shaped, release-shaped}
use Rattle.handover_core.proofs.Kept.{send-buckets, look-buckets, place-buckets, move-buckets, send_end-buckets, take-buckets, claim-buckets, release-buckets}
use Rattle.handover_core.proofs.Posts.{send-posts, look-posts, move-posts, place-posts, send_end-posts, take-posts, claim-posts, release-posts}
use Rattle.handover_core.proofs.Counts.{send-counted, send_end-counted, look-counted, place-counted, move-counted, take-counted, claim-counted, release-counted}

pub no_end : (m : MachineView) → IsSound m → IsEnabled m Send → end_sent m ≡ false
no_end m s e = not-sent-end m s.streamed (λ i. let l = e.0 in omega arith)

pub step-sound : (m : MachineView) (e : Event) → IsEnabled m e → IsSound m → IsSound (step m e)
step-sound m Send e s = record {
  shaped = send-shaped m e s.shaped;
  streamed = send-streamed m s.shaped s.streamed e (no_end m s e);
  buckets = send-buckets m s.shaped s.streamed e (no_end m s e) s.buckets;
  counted = send-counted m s.shaped e s.counted;
  posts = send-posts m s.shaped e s.posts;
}
step-sound m (Look b) e s = record { shaped = look-shaped m b e s.shaped; streamed = look-streamed m b s.streamed e; buckets = look-buckets m b e s.buckets; counted = look-counted m b e s.counted; posts = look-posts m b s.posts }
step-sound m (Move b to) e s = record {
  shaped = move-shaped m b to e s.shaped;
  streamed = move-streamed m b to s.shaped s.streamed e;
  buckets = move-buckets m b to s.shaped s.streamed e s.buckets;
  counted = move-counted m b to s.shaped s.buckets e s.counted;
  posts = move-posts m b to e s.posts;
}
step-sound m (Place b to) e s = record { shaped = place-shaped m b to e s.shaped; streamed = place-streamed m b to s.streamed e; buckets = place-buckets m b to e s.buckets; counted = place-counted m b to e s.counted; posts = place-posts m b to s.posts }
step-sound m (SendEnd c) e s = record { shaped = send_end-shaped m c e s.shaped; streamed = send_end-streamed m c s.streamed e; buckets = send_end-buckets m c e s.buckets; counted = send_end-counted m c e s.counted; posts = send_end-posts m c e s.posts }
step-sound m (Take c) e s = record {
  shaped = take-shaped m c e s.shaped;
  streamed = take-streamed m c s.streamed e;
  buckets = take-buckets m c s.shaped s.streamed e s.buckets;
  counted = take-counted m c s.shaped e s.counted;
  posts = take-posts m c e s.posts;
}
step-sound m (Claim c b) e s = record {
  shaped = claim-shaped m c b e s.shaped;
  streamed = claim-streamed m c b s.streamed e;
  buckets = claim-buckets m c b s.shaped s.streamed e s.buckets;
  counted = claim-counted m c b s.shaped s.buckets e s.counted;
  posts = claim-posts m c b e s.posts;
}
step-sound m (Release c b) e s = record {
  shaped = release-shaped m c b e s.shaped;
  streamed = release-streamed m c b s.streamed e;
  buckets = release-buckets m c b s.shaped s.streamed e s.buckets;
  counted = release-counted m c b s.shaped s.buckets e s.counted;
  posts = release-posts m c b e s.posts;
}

pub keeps-sound : (m : MachineView) (e : Event) → enabled m e ≡ true → IsSound m → IsSound (step m e)
keeps-sound m e h s = step-sound m e (is_enabled m e h) s

pub runs-sound : (m : MachineView) (es : List Event) (last : MachineView) → IsSound m → Runs m es last → IsSound last
runs-sound m [] last s r = subst IsSound (sym r) s
runs-sound m (e ∷ es) last s r = runs-sound (step m e) es last (keeps-sound m e r.0 s) r.1
