-- The flow label (RFC 6282, 3.2.1): whatever header is read from bytes, its label has 20 bits, and padding is none of them.
use Rattle.ieee802154.specs.declared.addr.Address.{Address}
use Rattle.std.specs.Prelude.{Option, Some, None}
use Prim.Native.Nat.{ℕ, ◌+◌, ◌*◌}
use native.Mathlib.Omega.{arith}
use mathlib.Core.List.{List}
use mathlib.Core.Path.{◌≡◌}
use lib.Dec.{eqb}
use Rattle.octets.specs.Read.{give, byte, be16, ◌>>=◌}
use Rattle.sixlowpan.specs.Next.{next_header}
use Rattle.iphc.specs.Iphc.{base_of, base, contexts, traffic_of, ecn_of, dscp_of, label_of, LabelFits, labelled, class_and_label, ecn_and_label, class_only, traffic, hop_limit, front_rest, front, addresses, repr_of, behind, iphc}
use Rattle.iphc.specs.declared.read.Base.{Base}
use Rattle.iphc.specs.declared.read.Traffic.{Traffic}
use Rattle.iphc.proofs.Gives.{Gives, gives_all, gives-give, gives_then, gives-map, gives-either, gives-byte, gives-be16}

-- the bits of the first byte above its low four, 2 of ECN and 2 of padding or 4 of padding, are none of the label's
pub padding-ignored : (padding high low : ℕ) → (label_of (padding * 16 + high) low).0 ≡ (label_of high low).0
padding-ignored padding high low = omega arith

abbrev Labelled : Traffic → Type 0
Labelled t = LabelFits t.flow_label

fits-labelled : (high : ℕ) (e d : Option ℕ) → Gives (labelled high e d) Labelled
unfolding labelled
fits-labelled high e d = gives-map be16 (λ low. traffic_of e d (Some (label_of high low))) gives-be16 (λ low h. omega arith)

fits-traffic : (tf : ℕ) → Gives (traffic tf) Labelled
unfolding traffic class_and_label ecn_and_label class_only
fits-traffic tf =
    gives-either (eqb tf 0b00) class_and_label _
    (gives_then byte (λ b. ◌>>=◌ byte (λ high. labelled high (ecn_of b) (dscp_of b))) gives-byte (λ b h. gives_then byte (λ high. labelled high (ecn_of b) (dscp_of b)) gives-byte (λ high k. fits-labelled high (ecn_of b) (dscp_of b))))
    (gives-either (eqb tf 0b01) ecn_and_label _ (gives_then byte (λ b. labelled b (ecn_of b) None) gives-byte (λ b h. fits-labelled b (ecn_of b) None))
    (gives-either (eqb tf 0b10) class_only (give _) (gives-map byte (λ b. traffic_of (ecn_of b) (dscp_of b) None) gives-byte (λ b h. tt)) (gives-give _ tt)))

fits-front : (b : Base) → Gives (front b) (λ f. Labelled f.traffic)
unfolding front front_rest
fits-front b =
    gives_then {P = λ i. Unit {0}} (contexts b.cid) (λ i. ◌>>=◌ (traffic b.tf) (λ t. front_rest b i t)) (gives_all (contexts b.cid) (λ i. tt))
    (λ i u. gives_then (traffic b.tf) (λ t. front_rest b i t) (fits-traffic b.tf)
    (λ t v. gives_then {P = λ n. Unit {0}} (next_header b.nh) (λ n. ◌>>=◌ (hop_limit b.hlim) (λ h. give (record { contexts = i; traffic = t; next_header = n; hop_limit = h }))) (gives_all (next_header b.nh) (λ n. tt))
    (λ n w. gives-map {P = λ h. Unit {0}} (hop_limit b.hlim) (λ h. record { contexts = i; traffic = t; next_header = n; hop_limit = h }) (gives_all (hop_limit b.hlim) (λ h. tt)) (λ h x. v))))

-- no more than 20 bits are ever read
pub label-fits : (ctx : List ℕ) (ls ld : Option Address) → Gives (iphc ctx ls ld) (λ r. LabelFits r.flow_label)
unfolding iphc behind repr_of
label-fits ctx ls ld =
    gives_then {P = λ v. Unit {0}} base (λ v. behind ctx ls ld (base_of v)) (gives_all base (λ v. tt))
    (λ v u. gives_then (front (base_of v)) (λ f. ◌>>=◌ (addresses ctx (base_of v) f.contexts ls ld) (λ a. give (repr_of ls ld f a))) (fits-front (base_of v))
    (λ f p. gives-map {P = λ a. Unit {0}} (addresses ctx (base_of v) f.contexts ls ld) (repr_of ls ld f) (gives_all (addresses ctx (base_of v) f.contexts ls ld) (λ a. tt)) (λ a q. p)))
