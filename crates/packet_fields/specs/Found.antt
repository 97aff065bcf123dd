-- What the program finds in a frame, as the definitions have it.
use Rattle.packet_fields.specs.declared.frame.Packet.{Packet}
use Rattle.packet_fields.specs.declared.frame.Packet.TheVariants.{V4, V6, Other}
use Rattle.packet_fields.specs.Frame.{Carried, Ipv4, Ipv6, Nothing}

abbrev pub found : Packet → Carried
found (V4 packet) = Ipv4 packet.now
found (V6 packet) = Ipv6 packet.now
found Other = Nothing
