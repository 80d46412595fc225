-- The definitions at worked values that were taken from outside: runs of a few steps on a line of two nodes, with the
-- terminal at port 2.
use Rattle.std.proofs.Common.{◌≡◌, List, [], ◌∷◌, refl}
use Rattle.worm_flit.specs.declared.Lane.{Lane}
use Rattle.worm_flit.specs.declared.Kind.TheVariants.{Head, Tail, Single}
use Rattle.worm_flit.specs.Packets.{flit}
use Rattle.worm_route.specs.Places.{Source, Buffer, Link}
use Rattle.worm_theory.specs.Shape.{Shape}
use Rattle.worm_theory.specs.Network.{Network}
use Rattle.worm_theory.specs.Steps.{Step, Offer, Feed, Route, Grant, Send, Take, after, empty}
use Rattle.worm_theory.specs.ShapeOf.{shape_of}
use Rattle.worm_theory.specs.LaneMoves.{lane_machine, lane_held}
use Rattle.worm_theory.specs.PacketPlaces.{packet_at, packet_along, packet_items}

run : Shape → Network → List Step → Network
run s net [] = net
run s net (step ∷ steps) = run s (after s net step) steps

-- one class of one channel; the lane from node 1 to node 0, a packet of the words 17 and 18, its head sent
line : Shape
line = shape_of (2 ∷ []) (1 ∷ []) 2

back : Lane
back = record { src = 1; dst = 0; class = 0 }

head_sent : List Step
head_sent = Offer 1 back (17 ∷ 18 ∷ []) ∷ Feed 1 0 ∷ Route 1 2 0 ∷ Grant 1 2 0 0 ∷ Send 1 2 0 ∷ []

-- the head is on the link, the tail still at the source
head_on_link : lane_held line (run line (empty line) head_sent) back 0 (Link 1 0) ≡ flit back 0 0 Head 17 ∷ []
unfolding run line back head_sent
head_on_link = refl

tail_at_source : lane_held line (run line (empty line) head_sent) back 0 Source ≡ flit back 0 1 Tail 18 ∷ []
unfolding run line back head_sent
tail_at_source = refl

-- of the cuts after the delivered and after each place (buffer, link, injection buffer, source) three are raised
cuts_then : (lane_machine (2 ∷ []) line (run line (empty line) head_sent) back 0).cuts ≡ 0 ∷ 0 ∷ 1 ∷ 1 ∷ 2 ∷ []
unfolding run line back head_sent
cuts_then = refl

list_then : (lane_machine (2 ∷ []) line (run line (empty line) head_sent) back 0).items
    ≡ flit back 0 0 Head 17 ∷ flit back 0 1 Tail 18 ∷ []
unfolding run line back head_sent
list_then = refl

-- one class of two channels; the second packet overtakes the first on the second channel
wide : Shape
wide = shape_of (2 ∷ []) (2 ∷ []) 2

there : Lane
there = record { src = 0; dst = 1; class = 0 }

overtaken : List Step
overtaken =
    Offer 0 there (1 ∷ 2 ∷ []) ∷ Offer 0 there
    (3 ∷ []) ∷ Feed 0 0 ∷ Feed 0 0 ∷ Route 0 2 0 ∷ Grant 0 2 0 0 ∷ Send 0 2 0 ∷ Send 0 2 0
    ∷ Feed 0 0 ∷ Route 0 2 0 ∷ Grant 0 2 0 1 ∷ Send 0 2 0 ∷ Take 1 0 ∷ Take 1 0 ∷ Take 1 0 ∷ Route 1 0 1 ∷ Grant 1 0 1 1
    ∷ Send 1 0 1 ∷ []

second_delivered : packet_along wide (run wide (empty wide) overtaken) there 1 [] ≡ flit there 1 0 Single 3 ∷ []
unfolding run wide there overtaken
second_delivered = refl

first_in_buffer : packet_at wide (run wide (empty wide) overtaken) there 0 (Buffer 1 0)
    ≡ flit there 0 0 Head 1 ∷ flit there 0 1 Tail 2 ∷ []
unfolding run wide there overtaken
first_in_buffer = refl

first_whole : packet_items (2 ∷ []) wide (run wide (empty wide) overtaken) there 0
    ≡ flit there 0 0 Head 1 ∷ flit there 0 1 Tail 2 ∷ []
unfolding run wide there overtaken
first_whole = refl
