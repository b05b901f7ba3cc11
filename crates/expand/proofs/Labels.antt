-- The flow label of a header that was read goes whole into the IPv6 header: the low 20 bits of its first four bytes. Its traffic class has
-- eight bits, so that the version in front of it is 6.
use Rattle.ieee802154.specs.declared.addr.Address.{Address}
use Rattle.std.specs.Prelude.{Option, Some, None}
use Prim.Native.Nat.{ℕ, ◌+◌, ◌*◌, ◌/◌, ◌%◌, ◌^◌, ◌<◌}
use native.Mathlib.Omega.{arith}
use mathlib.Core.List.{List}
use mathlib.Core.Path.{◌≡◌, subst}
use lib.Dec.{eqb}
use Rattle.octets.specs.Read.{got, byte, be16, give, ◌>>=◌}
use Rattle.iphc.specs.Iphc.{LabelFits, base_of, base, contexts, traffic_of, ecn_of, dscp_of, label_of, labelled, class_and_label, ecn_and_label, class_only, traffic, hop_limit, front_rest, front, addresses, repr_of, behind, iphc}
use Rattle.iphc.specs.Shortest.{Bytes}
use Rattle.iphc.specs.declared.label.FlowLabel.{FlowLabel}
use Rattle.iphc.specs.declared.header.Repr.{Repr}
use Rattle.iphc.specs.declared.read.Base.{Base}
use Rattle.iphc.specs.declared.read.Traffic.{Traffic}
use Rattle.iphc.proofs.Gives.{Gives, gives_all, gives-give, gives_then, gives-map, gives-either, gives-byte}
use Rattle.iphc.proofs.Labels.{label-fits}
use Rattle.sixlowpan.specs.Next.{next_header}
use Rattle.expand.specs.Full.{byte_or, class_of, first_word}

word-label : (h : Repr) (l : FlowLabel) → h.flow_label ≡ Some l → l.0 < 2 ^ 20 → first_word h % 2 ^ 20 ≡ l.0
word-label h l e f = rw e (omega arith)

pub label-whole : (ctx : List ℕ) (ls ld : Option Address) (s : List ℕ) (at n : ℕ) (h : Repr) (l : FlowLabel) → Bytes s → iphc ctx ls ld s at ≡ got h n → h.flow_label ≡ Some l → first_word h % 2 ^ 20 ≡ l.0
label-whole ctx ls ld s at n h l b e q = word-label h l q (subst LabelFits q ((label-fits ctx ls ld).so s at h n b e))

-- ---- the traffic class: DSCP is six bits of a byte that was read, and ECN its other two
abbrev Classed : Traffic → Type 0
Classed t = byte_or t.dscp * 4 + byte_or t.ecn / 64 < 256

class-labelled : (high : ℕ) (e d : Option ℕ) → byte_or d * 4 + byte_or e / 64 < 256 → Gives (labelled high e d) Classed
unfolding labelled
class-labelled high e d h = gives-map {P = λ x. Unit {0}} be16 (λ low. traffic_of e d (Some (label_of high low))) (gives_all be16 (λ x. tt)) (λ low u. h)

class-traffic : (tf : ℕ) → Gives (traffic tf) Classed
unfolding traffic class_and_label ecn_and_label class_only
class-traffic tf =
    gives-either (eqb tf 0b00) class_and_label _
    (gives_then byte (λ b. ◌>>=◌ byte (λ high. labelled high (ecn_of b) (dscp_of b))) gives-byte (λ b h. gives_then byte (λ high. labelled high (ecn_of b) (dscp_of b)) gives-byte (λ high k. class-labelled high (ecn_of b) (dscp_of b) (omega arith))))
    (gives-either (eqb tf 0b01) ecn_and_label _ (gives_then byte (λ b. labelled b (ecn_of b) None) gives-byte (λ b h. class-labelled b (ecn_of b) None (omega arith)))
    (gives-either (eqb tf 0b10) class_only (give _) (gives-map byte (λ b. traffic_of (ecn_of b) (dscp_of b) None) gives-byte (λ b h. omega arith)) (gives-give _ (omega arith))))

class-front : (b : Base) → Gives (front b) (λ f. Classed f.traffic)
unfolding front front_rest
class-front b =
    gives_then {P = λ i. Unit {0}} (contexts b.cid) (λ i. ◌>>=◌ (traffic b.tf) (λ t. front_rest b i t)) (gives_all (contexts b.cid) (λ i. tt))
    (λ i u. gives_then (traffic b.tf) (λ t. front_rest b i t) (class-traffic b.tf)
    (λ t v. gives_then {P = λ n. Unit {0}} (next_header b.nh) (λ n. ◌>>=◌ (hop_limit b.hlim) (λ h. give (record { contexts = i; traffic = t; next_header = n; hop_limit = h }))) (gives_all (next_header b.nh) (λ n. tt))
    (λ n w. gives-map {P = λ h. Unit {0}} (hop_limit b.hlim) (λ h. record { contexts = i; traffic = t; next_header = n; hop_limit = h }) (gives_all (hop_limit b.hlim) (λ h. tt)) (λ h x. v))))

pub class-fits : (ctx : List ℕ) (ls ld : Option Address) → Gives (iphc ctx ls ld) (λ r. class_of r < 256)
unfolding iphc behind repr_of
class-fits ctx ls ld =
    gives_then {P = λ v. Unit {0}} base (λ v. behind ctx ls ld (base_of v)) (gives_all base (λ v. tt))
    (λ v u. gives_then (front (base_of v)) (λ f. ◌>>=◌ (addresses ctx (base_of v) f.contexts ls ld) (λ a. give (repr_of ls ld f a))) (class-front (base_of v))
    (λ f p. gives-map {P = λ a. Unit {0}} (addresses ctx (base_of v) f.contexts ls ld) (repr_of ls ld f) (gives_all (addresses ctx (base_of v) f.contexts ls ld) (λ a. tt)) (λ a q. p)))

pub version-six : (h : Repr) → class_of h < 256 → first_word h / 2 ^ 16 / 256 / 16 ≡ 6
version-six h k = omega arith
