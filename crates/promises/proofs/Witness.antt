-- What demand 3 supposes can be met: runs of `receive`, in bytes (Worked.antt), over any lent memory and any outputs that are long enough, to a
-- table of the gateway 0001 in PAN abcd and another: 0002 beside it, or 0001 in another building's PAN.
use Rattle.std.specs.Prelude.{Some, Ok, Err}
use Prim.Native.Nat.{ℕ, ◌+◌, ◌≤◌}
use native.Mathlib.Omega.{arith}
use mathlib.Core.Path.{◌≡◌, refl, sym, ap, ◌∙◌}
use mathlib.Core.Logic.{inl, inr}
use mathlib.Core.Bool.{Bool, true, false}
use mathlib.Core.List.{List, [], ◌∷◌}
use lib.ListN.{length}
use lib.Dec.{lit≤, lit<}
use Rattle.octets.specs.Read.{is}
use Rattle.octets.specs.Write.{put, be16_bytes, be32_bytes}
use Rattle.octets.specs.declared.refusal.Refusal.{Refusal}
use Rattle.ieee802154.specs.declared.addr.Address.TheVariants.{Short}
use Rattle.marks.specs.Marks.{has_in, fill, bits, unpack, val, packs, pack}
use Rattle.expand.specs.Sum.{words, ones_sum, pseudo, covered, udp_checksum, seen, checksum_at, summed_at, summed_by, holds, elided_at, carried_at}
use Rattle.reassembly.specs.Lists.{count, first_at, those}
use Rattle.reassembly.specs.Slots.{no_node, no_source, same_node, same_source, addressed, present, same_key, free_slot, opened, is_free, is_key, is_of, expired, expire1, expire, gates_of, is_gate, held, free, idle_others, may_open}
use Rattle.reassembly.specs.Parts.{Part, Reply, kept, out, refused, told, Answered, of_outcome, output_after, units, fits_in, fits, finish, spans, repeats_in, taken_in, full, place, offer}
use Rattle.reassembly.specs.Table.{part, State, with_slots, slots_at, land, where_key, where_free, offer_at, open_at, take_part, step, room_call, Gives, comes, next, run}
use Rattle.reassembly.specs.Fresh.{seats, fresh, sources, unfit, refused_list, Gateways, begun}
use Rattle.reassembly.specs.declared.slot.Source.{Source}
use Rattle.reassembly.specs.declared.slot.Key.{Key}
use Rattle.reassembly.specs.declared.part.Outcome.{Outcome}
use Rattle.reassembly.proofs.Fresh.{accepted}
use Rattle.reassembly.proofs.Runs.{Good, fresh-good, comes-part}
use Rattle.reassembly.proofs.Lent.{room-is}
use Rattle.receiver.specs.Receive.{frame_call}
use Rattle.receiver.specs.Names.{named}
use Rattle.reassembly.specs.Cover.{In}
use Rattle.promises.specs.Cuttings.{zeroed, Cutting}
use Rattle.promises.specs.Runs.{came, AllKept}
use Rattle.promises.specs.Frames.{Turn, call_in, Ran, end_of, Forward, meant, MeansPart, parts_of, Supposed, Concluded}
use Rattle.promises.proofs.TwoParts.{low, high, halves, low-in, high-in, halves-cover, low-missing, high-missing}
use Rattle.reassembly.specs.declared.table.Gateway.{Gateway}
use Rattle.receiver.proofs.Names.{frame-part}
use Rattle.promises.proofs.Frames.{good-next, call-is, ran-left, as-calls, demand-3}
use Rattle.promises.proofs.Relayed.{relayed-frame, relayed-brings}
use Rattle.promises.proofs.Worked.{Other, neighbour, building, gateways, old-key, new-key, last-month, this-month, resent, old-first, old-later, new-first, new-later, elided-frame, resent-later, first-brings, later-brings}

abbrev listed_as : ℕ → ℕ → Gateway
listed_as a p = record { addr = Short a; pan = Some (record { 0 = p }) }

-- the gateways are a list that `Table::new` takes
listed : (w : Other) → Gateways (gateways w)
unfolding sources unfit refused_list count same_source same_node present addressed
listed neighbour = accepted 2 (listed_as 1 0xabcd ∷ listed_as 2 0xabcd ∷ []) (lit≤ tt) refl
listed building = accepted 2 (listed_as 1 0xabcd ∷ listed_as 1 0x1234 ∷ []) (lit≤ tt) refl

-- and the two who send are of them
both-listed : (w : Other) → (is_gate old-key.src (gateways w) ≡ true) × (is_gate (new-key w).src (gateways w) ≡ true)
unfolding is_gate count same_source same_node
both-listed neighbour = (refl, refl)
both-listed building = (refl, refl)

-- ---- calls as the specification answers them

-- what it answers that refuses nothing
abbrev answer_of : Reply (List ℕ) → Answered
answer_of kept = Ok Outcome.Kept
answer_of (out d) = Ok (Outcome.Out (length d))
answer_of (refused n) = Err Refusal.Clash

abbrev answered : Reply (List ℕ) → Bool
answered kept = true
answered (out d) = true
answered (refused n) = false

answer-so : (r : Reply (List ℕ)) → answered r ≡ true → of_outcome (answer_of r) ≡ told r
answer-so kept e = refl
answer-so (out d) e = refl
answer-so (refused n) e = absurd (mathlib.Core.Bool.false≢true e)

-- the call with the frame s at t and the output o, where the table and the memory are σ and the frame brings p
abbrev turn : State → List ℕ → ℕ → List ℕ → Part → Turn
turn σ o t s p = record {
  time = t;
  frame = s;
  contexts = [];
  before = o;
  returned = record { answer = answer_of (step σ (part t p)).reply; table = (step σ (part t p)).state.table };
  memory = (step σ (part t p)).state.mem;
  output = output_after (step σ (part t p)).reply o;
}

-- the two keys differ in their source: in its address, or in its PAN
abbrev who : Key → ℕ
who k = k.src.node.number + k.src.pan

apart : (w : Other) → who old-key ≡ who (new-key w) → ⊥
apart neighbour e = let z : ◌≡◌ {A = ℕ} 0xabcf 0xabd0 = e in omega arith
apart building e = let z : ◌≡◌ {A = ℕ} 0xabcf 0x1236 = e in omega arith

-- a frame that names one names not the other
not_named : {X : Type 0} (w : Other) (s : List ℕ) → named s ≡ is old-key → named s ≡ is (new-key w) → X
not_named w s e f = let z : old-key ≡ new-key w = cc in absurd (apart w (ap who z))

only : (p q : Part) → In p (q ∷ []) → p ≡ q
only p q (inl z) = z
only p q (inr z) = absurd z

-- ---- "Two gateways in one shaft, one still sending last month's patch, can pick the same tag and size"; "two buildings, one short address":
-- the one sends last month's block, the other this month's, part by part in turn, the parts of the one in order and those of the other not
abbrev old-high : Part
old-high = high old-key last-month 7 (carried_at 0 40)

abbrev old-low : Part
old-low = low old-key last-month 7 (carried_at 0 40)

abbrev new-high : Other → Part
new-high w = high (new-key w) (this-month w) 7 (carried_at 0 40)

abbrev new-low : Other → Part
new-low w = low (new-key w) (this-month w) 7 (carried_at 0 40)

-- the carried checksums are right
old-right : holds (carried_at 0 40) (zeroed (carried_at 0 40) last-month) ≡ true
unfolding zeroed holds checksum_at seen udp_checksum covered pseudo words ones_sum be16_bytes be32_bytes
old-right = refl

new-right : (w : Other) → holds (carried_at 0 40) (zeroed (carried_at 0 40) (this-month w)) ≡ true
unfolding zeroed holds checksum_at seen udp_checksum covered pseudo words ones_sum be16_bytes be32_bytes
new-right neighbour = refl
new-right building = refl

module _ (w : Other) (m : List ℕ) where
  abbrev σ₀ : State
  σ₀ = begun (gateways w) m

  abbrev σ₁ : State
  σ₁ = next σ₀ (part 1000 old-high)

  abbrev σ₂ : State
  σ₂ = next σ₁ (part 1005 (new-low w))

  abbrev σ₃ : State
  σ₃ = next σ₂ (part 1012 old-low)

-- the first two are not refused, and each gateway holds no slot when its first part comes
all-answered :
    (w : Other) (m : List ℕ)
    → (answered (step (σ₀ w m) (part 1000 old-high)).reply ≡ true)
    × (answered (step (σ₁ w m) (part 1005 (new-low w))).reply ≡ true)
    × (held (new-key w).src (σ₁ w m).table.slots ≡ 0)
    × (held old-key.src (σ₀ w m).table.slots ≡ 0)
unfolding has_in fill bits unpack val packs pack count first_at those no_node no_source same_source same_node present addressed same_key free_slot opened is_free is_key is_of expired expire1 expire gates_of is_gate held free idle_others may_open units fits_in spans repeats_in taken_in full place offer with_slots slots_at land where_key where_free offer_at open_at take_part step next seats fresh zeroed
all-answered neighbour m = (refl, refl, refl, refl)
all-answered building m = (refl, refl, refl, refl)

-- what comes under the two keys
came-so :
    (w : Other)
    → (came old-key (part 1000 old-high ∷ part 1005 (new-low w) ∷ []) ≡ old-high ∷ [])
    × (came old-key (part 1000 old-high ∷ part 1005 (new-low w) ∷ part 1012 old-low ∷ []) ≡ old-high ∷ old-low ∷ [])
    × (came (new-key w) (part 1005 (new-low w) ∷ part 1012 old-low ∷ []) ≡ new-low w ∷ [])
    × (came (new-key w) (part 1005 (new-low w) ∷ part 1012 old-low ∷ part 1017 (new-high w) ∷ []) ≡ new-low w ∷ new-high w ∷ [])
unfolding came comes same_key same_source same_node fits_in zeroed
came-so neighbour = (refl, refl, refl, refl)
came-so building = (refl, refl, refl, refl)

module _ (w : Other) (m : List ℕ) (enough : 16384 ≤ length m) (o : List ℕ) (room : 2047 ≤ length o) where
  abbrev gs : List Source
  gs = gateways w

  name_of : (t : ℕ) (s : List ℕ) (p : Part) → frame_call [] t s ≡ part t p → named s ≡ is p.key
  name_of t s p e = (frame-part [] t s t p e).name

  good₀ : Good (σ₀ w m)
  good₀ = fresh-good gs m (listed w) enough

  -- what comes is what the frame brings
  meant-so : (t : ℕ) (s : List ℕ) (p : Part) → frame_call [] t s ≡ part t p → room_call o (frame_call [] t s) ≡ part t p
  meant-so t s p e = room-is o _ room ∙ e

  meets : (σ : State) (t : ℕ) (s : List ℕ) (p : Part) → Good σ → frame_call [] t s ≡ part t p → answered (step σ (part t p)).reply ≡ true
      → Gives (turn σ o t s p).returned (turn σ o t s p).memory o (turn σ o t s p).output (step σ (call_in σ (turn σ o t s p)))
  meets σ t s p F e a =
      let c : call_in σ (turn σ o t s p) ≡ part t p = call-is σ (turn σ o t s p) F ∙ meant-so t s p e in
      rw c (record { answer = answer-so (step σ (part t p)).reply a; table = refl; memory = refl; output = refl })

  abbrev h₁ : Turn
  h₁ = turn (σ₀ w m) o 1000 old-later old-high

  abbrev h₂ : Turn
  h₂ = turn (σ₁ w m) o 1005 (new-first w) (new-low w)

  abbrev h₃ : Turn
  h₃ = turn (σ₂ w m) o 1012 old-first old-low

  abbrev h₄ : Turn
  h₄ = turn (σ₃ w m) o 1017 (new-later w) (new-high w)

  good₁ : Good (σ₁ w m)
  good₁ = good-next (σ₀ w m) (part 1000 old-high) good₀

  good₂ : Good (σ₂ w m)
  good₂ = good-next (σ₁ w m) (part 1005 (new-low w)) good₁

  good₃ : Good (σ₃ w m)
  good₃ = good-next (σ₂ w m) (part 1012 old-low) good₂

  pub old-cutting : Cutting old-key last-month
  unfolding zeroed summed_by fits_in
  old-cutting = halves old-key last-month 7 (carried_at 0 40) refl (lit< tt) (lit≤ tt) refl refl refl old-right

  pub new-cutting : Cutting (new-key w) (this-month w)
  unfolding zeroed summed_by fits_in
  new-cutting = halves (new-key w) (this-month w) 7 (carried_at 0 40) refl (lit< tt) (lit≤ tt) refl refl refl (new-right w)

  meant₁ : meant h₁ ≡ part 1000 old-high
  meant₁ = meant-so 1000 old-later old-high (later-brings 1000).0

  meant₂ : meant h₂ ≡ part 1005 (new-low w)
  meant₂ = meant-so 1005 (new-first w) (new-low w) ((first-brings 1005).1 w)

  meant₃ : meant h₃ ≡ part 1012 old-low
  meant₃ = meant-so 1012 old-first old-low (first-brings 1012).0

  meant₄ : meant h₄ ≡ part 1017 (new-high w)
  meant₄ = meant-so 1017 (new-later w) (new-high w) ((later-brings 1017).1 w)

  what-came :
      (parts_of old-key (h₁ ∷ h₂ ∷ []) ≡ old-high ∷ [])
      × (parts_of old-key (h₁ ∷ h₂ ∷ h₃ ∷ []) ≡ old-high ∷ old-low ∷ [])
      × (parts_of (new-key w) (h₂ ∷ h₃ ∷ []) ≡ new-low w ∷ [])
      × (parts_of (new-key w) (h₂ ∷ h₃ ∷ h₄ ∷ []) ≡ new-low w ∷ new-high w ∷ [])
  unfolding parts_of
  what-came = (
    rw (meant₁, meant₂) (came-so w).0,
    rw (meant₁, meant₂, meant₃) (came-so w).1,
    rw (meant₂, meant₃) (came-so w).2,
    rw (meant₂, meant₃, meant₄) (came-so w).3,
  )

  of-old : (h : Turn) → In h (h₁ ∷ h₂ ∷ h₃ ∷ []) → named h.frame ≡ is old-key → (p : Part) × In p old-cutting.parts × MeansPart h p
  unfolding old-cutting zeroed summed_by fits_in
  of-old h (inl z) n = rw z (old-high, high-in old-key last-month 7 (carried_at 0 40) refl (lit< tt) (lit≤ tt) refl refl refl old-right, meant₁)
  of-old h (inr (inl z)) n =
      not_named w (new-first w) (rw z at n) (name_of 1005 (new-first w) (new-low w) ((first-brings 1005).1 w))
  of-old h (inr (inr (inl z))) n = rw z (old-low, low-in old-key last-month 7 (carried_at 0 40) refl (lit< tt) (lit≤ tt) refl refl refl old-right, meant₃)
  of-old h (inr (inr (inr z))) n = absurd z

  of-new : (h : Turn) → In h (h₂ ∷ h₃ ∷ h₄ ∷ []) → named h.frame ≡ is (new-key w) → (p : Part) × In p new-cutting.parts × MeansPart h p
  unfolding new-cutting zeroed summed_by fits_in
  of-new h (inl z) n = rw z ((new-low w), low-in (new-key w) (this-month w) 7 (carried_at 0 40) refl (lit< tt) (lit≤ tt) refl refl refl (new-right w), meant₂)
  of-new h (inr (inl z)) n =
      not_named w old-first (name_of 1012 old-first old-low (first-brings 1012).0) (rw z at n)
  of-new h (inr (inr (inl z))) n = rw z ((new-high w), high-in (new-key w) (this-month w) 7 (carried_at 0 40) refl (lit< tt) (lit≤ tt) refl refl refl (new-right w), meant₄)
  of-new h (inr (inr (inr z))) n = absurd z

  pub old-supposed : Supposed gs m old-key last-month old-cutting [] (h₁ ∷ h₂ ∷ []) h₃
  unfolding Forward
  old-supposed = record {
    gateways = listed w;
    enough = enough;
    forward = (lit≤ tt, (lit≤ tt, (lit≤ tt, tt)));
    gate = (both-listed w).0;
    first = h₁;
    then = h₂ ∷ h₃ ∷ [];
    earliest = refl;
    earliest-named = name_of 1000 old-later old-high (later-brings 1000).0;
    of-cutting = of-old;
    cover = rw what-came.1 (halves-cover old-key last-month 7 (carried_at 0 40) refl (lit< tt) (lit≤ tt) (old-high ∷ old-low ∷ []) (inr (inl refl)) (inl refl));
    not-before = λ c. low-missing old-key last-month 7 (carried_at 0 40) refl (lit< tt) (lit≤ tt) (old-high ∷ []) (λ p i. only p old-high i) (rw what-came.0 at c);
    soon = lit< tt;
  }

  pub new-supposed : Supposed gs m (new-key w) (this-month w) new-cutting (h₁ ∷ []) (h₂ ∷ h₃ ∷ []) h₄
  unfolding Forward
  new-supposed = record {
    gateways = listed w;
    enough = enough;
    forward = (lit≤ tt, (lit≤ tt, (lit≤ tt, (lit≤ tt, tt))));
    gate = (both-listed w).1;
    first = h₂;
    then = h₃ ∷ h₄ ∷ [];
    earliest = refl;
    earliest-named = name_of 1005 (new-first w) (new-low w) ((first-brings 1005).1 w);
    of-cutting = of-new;
    cover = rw what-came.3 (halves-cover (new-key w) (this-month w) 7 (carried_at 0 40) refl (lit< tt) (lit≤ tt) (new-low w ∷ new-high w ∷ []) (inl refl) (inr (inl refl)));
    not-before = λ c. high-missing (new-key w) (this-month w) 7 (carried_at 0 40) refl (lit< tt) (lit≤ tt) (new-low w ∷ []) (λ p i. only p (new-low w) i) (rw what-came.2 at c);
    soon = lit< tt;
  }

  old-reply : (step (σ₂ w m) (part 1012 old-low)).reply ≡ out last-month
  unfolding run AllKept
  old-reply =
      let v = as-calls gs m old-key last-month old-cutting [] (h₁ ∷ h₂ ∷ []) h₃ old-supposed (all-answered w m).3 in
      let p : part 1012 v.0 ≡ part 1012 old-low = sym v.1 ∙ meant₃ in
      let k : (step (next (next (σ₀ w m) (meant h₁)) (meant h₂)) (part 1012 v.0)).reply ≡ out last-month = v.2.exactly in
      rw (meant₁, meant₂, p) at k

  new-reply : (step (σ₃ w m) (part 1017 (new-high w))).reply ≡ out (this-month w)
  unfolding run AllKept
  new-reply =
      let z : held (new-key w).src (next (σ₀ w m) (meant h₁)).table.slots ≡ 0 = rw meant₁ (all-answered w m).2 in
      let v = as-calls gs m (new-key w) (this-month w) new-cutting (h₁ ∷ []) (h₂ ∷ h₃ ∷ []) h₄ new-supposed z in
      let p : part 1017 v.0 ≡ part 1017 (new-high w) = sym v.1 ∙ meant₄ in
      let k : (step (next (next (next (σ₀ w m) (meant h₁)) (meant h₂)) (meant h₃)) (part 1017 v.0)).reply ≡ out (this-month w) = v.2.exactly in
      rw (meant₁, meant₂, meant₃, p) at k

  pub both-ran : Ran (σ₀ w m) (h₁ ∷ h₂ ∷ h₃ ∷ h₄ ∷ [])
  unfolding Ran next
  both-ran = (
    meets (σ₀ w m) 1000 old-later old-high good₀ (later-brings 1000).0 (all-answered w m).0,
    (
      meets (σ₁ w m) 1005 (new-first w) (new-low w) good₁ ((first-brings 1005).1 w) (all-answered w m).1,
      (
        meets (σ₂ w m) 1012 old-first old-low good₂ (first-brings 1012).0 (ap answered old-reply),
        (meets (σ₃ w m) 1017 (new-later w) (new-high w) good₃ ((later-brings 1017).1 w) (ap answered new-reply), tt),
      ),
    ),
  )

  -- so each gateway's datagram is handed out exactly, and the two never meet
  pub both-blocks : Concluded old-key last-month (h₁ ∷ h₂ ∷ []) h₃ × Concluded (new-key w) (this-month w) (h₂ ∷ h₃ ∷ []) h₄
  unfolding end_of next
  both-blocks = (
    demand-3 gs m old-key last-month old-cutting [] (h₁ ∷ h₂ ∷ []) h₃ old-supposed
        (ran-left (h₁ ∷ h₂ ∷ h₃ ∷ []) (h₄ ∷ []) (σ₀ w m) both-ran) (all-answered w m).3,
    demand-3 gs m (new-key w) (this-month w) new-cutting (h₁ ∷ []) (h₂ ∷ h₃ ∷ []) h₄ new-supposed both-ran (all-answered w m).2,
  )

  -- ---- an elided checksum, a part that comes twice, and the last one 59,999 ms after the first: 0001 sends this month's block
  abbrev resent-low : Part
  resent-low = low old-key resent 7 (elided_at 0 40)

  abbrev resent-high : Part
  resent-high = high old-key resent 7 (elided_at 0 40)

  abbrev τ₁ : State
  τ₁ = next (σ₀ w m) (part 0 resent-low)

  abbrev τ₂ : State
  τ₂ = next τ₁ (part 10 resent-low)

  abbrev e₁ : Turn
  e₁ = turn (σ₀ w m) o 0 elided-frame resent-low

  abbrev e₂ : Turn
  e₂ = turn τ₁ o 10 elided-frame resent-low

  abbrev e₃ : Turn
  e₃ = turn τ₂ o 59999 resent-later resent-high

  elided₁ : meant e₁ ≡ part 0 resent-low
  elided₁ = meant-so 0 elided-frame resent-low (first-brings 0).2

  elided₂ : meant e₂ ≡ part 10 resent-low
  elided₂ = meant-so 10 elided-frame resent-low (first-brings 10).2

  elided₃ : meant e₃ ≡ part 59999 resent-high
  elided₃ = meant-so 59999 resent-later resent-high (later-brings 59999).2

  resent-fits : (fits resent-low ≡ true) × (fits resent-high ≡ true)
  unfolding fits_in zeroed
  resent-fits = (refl, refl)

  -- the checksum 43c7 is the computed one
  resent-summed : finish (elided_at 0 40) (zeroed (elided_at 0 40) resent) ≡ resent
  unfolding zeroed summed_by summed_at checksum_at seen put be16_bytes be32_bytes words ones_sum pseudo covered udp_checksum
  resent-summed = refl

  -- and nothing was carried
  resent-right : holds (elided_at 0 40) (zeroed (elided_at 0 40) resent) ≡ true
  unfolding holds
  resent-right = refl

  pub resent-cutting : Cutting old-key resent
  resent-cutting = halves old-key resent 7 (elided_at 0 40) refl (lit< tt) (lit≤ tt) resent-fits.0 resent-fits.1 resent-summed resent-right

  resent-came :
      (parts_of old-key (e₁ ∷ e₂ ∷ []) ≡ resent-low ∷ resent-low ∷ [])
      × (parts_of old-key (e₁ ∷ e₂ ∷ e₃ ∷ []) ≡ resent-low ∷ resent-low ∷ resent-high ∷ [])
  unfolding parts_of came comes same_key same_source same_node fits_in zeroed
  resent-came = (rw (elided₁, elided₂), rw (elided₁, elided₂, elided₃))

  of-resent : (h : Turn) → In h (e₁ ∷ e₂ ∷ e₃ ∷ []) → named h.frame ≡ is old-key → (p : Part) × In p resent-cutting.parts × MeansPart h p
  unfolding resent-cutting
  of-resent h (inl z) n = rw z (resent-low, low-in old-key resent 7 (elided_at 0 40) refl (lit< tt) (lit≤ tt) resent-fits.0 resent-fits.1 resent-summed resent-right, elided₁)
  of-resent h (inr (inl z)) n = rw z (resent-low, low-in old-key resent 7 (elided_at 0 40) refl (lit< tt) (lit≤ tt) resent-fits.0 resent-fits.1 resent-summed resent-right, elided₂)
  of-resent h (inr (inr (inl z))) n = rw z (resent-high, high-in old-key resent 7 (elided_at 0 40) refl (lit< tt) (lit≤ tt) resent-fits.0 resent-fits.1 resent-summed resent-right, elided₃)
  of-resent h (inr (inr (inr z))) n = absurd z

  pub resent-supposed : Supposed gs m old-key resent resent-cutting [] (e₁ ∷ e₂ ∷ []) e₃
  unfolding Forward
  resent-supposed = record {
    gateways = listed w;
    enough = enough;
    forward = (lit≤ tt, (lit≤ tt, (lit≤ tt, tt)));
    gate = (both-listed w).0;
    first = e₁;
    then = e₂ ∷ e₃ ∷ [];
    earliest = refl;
    earliest-named = name_of 0 elided-frame resent-low (first-brings 0).2;
    of-cutting = of-resent;
    cover = rw resent-came.1 (halves-cover old-key resent 7 (elided_at 0 40) refl (lit< tt) (lit≤ tt) (resent-low ∷ resent-low ∷ resent-high ∷ []) (inl refl) (inr (inr (inl refl))));
    not-before = λ c. high-missing old-key resent 7 (elided_at 0 40) refl (lit< tt) (lit≤ tt) (resent-low ∷ resent-low ∷ []) twice (rw resent-came.0 at c);
    soon = lit< tt;
  }
    where
      twice : (p : Part) → In p (resent-low ∷ resent-low ∷ []) → p ≡ resent-low
      twice p (inl z) = z
      twice p (inr z) = only p resent-low z

  resent-replies :
      ((step (σ₀ w m) (part 0 resent-low)).reply ≡ kept)
      × ((step τ₁ (part 10 resent-low)).reply ≡ kept)
      × ((step τ₂ (part 59999 resent-high)).reply ≡ out resent)
  unfolding run AllKept
  resent-replies =
      let v = as-calls gs m old-key resent resent-cutting [] (e₁ ∷ e₂ ∷ []) e₃ resent-supposed (all-answered w m).3 in
      let c₁ : comes old-key (meant e₁) ≡ resent-low ∷ [] = rw elided₁ (comes-part old-key 0 resent-low refl resent-fits.0) in
      let c₂ : comes old-key (meant e₂) ≡ resent-low ∷ [] = rw elided₂ (comes-part old-key 10 resent-low refl resent-fits.0) in
      let p : part 59999 v.0 ≡ part 59999 resent-high = sym v.1 ∙ elided₃ in
      let k₁ : (step (σ₀ w m) (meant e₁)).reply ≡ kept = v.2.none_before.0 resent-low c₁ in
      let k₂ : (step (next (σ₀ w m) (meant e₁)) (meant e₂)).reply ≡ kept = v.2.none_before.1.0 resent-low c₂ in
      let k₃ : (step (next (next (σ₀ w m) (meant e₁)) (meant e₂)) (part 59999 v.0)).reply ≡ out resent = v.2.exactly in
      (rw elided₁ at k₁, rw (elided₁, elided₂) at k₂, rw (elided₁, elided₂, p) at k₃)

  pub resent-ran : Ran (σ₀ w m) (e₁ ∷ e₂ ∷ e₃ ∷ [])
  unfolding Ran next
  resent-ran =
      let f₁ = good-next (σ₀ w m) (part 0 resent-low) good₀ in
      let f₂ = good-next τ₁ (part 10 resent-low) f₁ in (
        meets (σ₀ w m) 0 elided-frame resent-low good₀ (first-brings 0).2 (ap answered resent-replies.0),
        (
          meets τ₁ 10 elided-frame resent-low f₁ (first-brings 10).2 (ap answered resent-replies.1),
          (meets τ₂ 59999 resent-later resent-high f₂ (later-brings 59999).2 (ap answered resent-replies.2), tt),
        ),
      )

  pub resent-block : Concluded old-key resent (e₁ ∷ e₂ ∷ []) e₃
  unfolding end_of
  resent-block = demand-3 gs m old-key resent resent-cutting [] (e₁ ∷ e₂ ∷ []) e₃ resent-supposed resent-ran (all-answered w m).3

  -- ---- one part bare and one by a relay: 0001 sends last month's block, its later part comes by the relay 0077 and its first part directly
  abbrev r₁ : Turn
  r₁ = turn (σ₀ w m) o 1000 relayed-frame old-high

  abbrev r₂ : Turn
  r₂ = turn (σ₁ w m) o 1012 old-first old-low

  relayed₁ : meant r₁ ≡ part 1000 old-high
  relayed₁ = meant-so 1000 relayed-frame old-high (relayed-brings 1000)

  relayed₂ : meant r₂ ≡ part 1012 old-low
  relayed₂ = meant-so 1012 old-first old-low (first-brings 1012).0

  relayed-came :
      (parts_of old-key (r₁ ∷ []) ≡ old-high ∷ [])
      × (parts_of old-key (r₁ ∷ r₂ ∷ []) ≡ old-high ∷ old-low ∷ [])
  unfolding parts_of came comes same_key same_source same_node fits_in zeroed
  relayed-came = (rw relayed₁, rw (relayed₁, relayed₂))

  of-relayed : (h : Turn) → In h (r₁ ∷ r₂ ∷ []) → named h.frame ≡ is old-key → (p : Part) × In p old-cutting.parts × MeansPart h p
  unfolding old-cutting zeroed summed_by fits_in
  of-relayed h (inl z) n = rw z (old-high, high-in old-key last-month 7 (carried_at 0 40) refl (lit< tt) (lit≤ tt) refl refl refl old-right, relayed₁)
  of-relayed h (inr (inl z)) n = rw z (old-low, low-in old-key last-month 7 (carried_at 0 40) refl (lit< tt) (lit≤ tt) refl refl refl old-right, relayed₂)
  of-relayed h (inr (inr z)) n = absurd z

  pub relayed-supposed : Supposed gs m old-key last-month old-cutting [] (r₁ ∷ []) r₂
  unfolding Forward
  relayed-supposed = record {
    gateways = listed w;
    enough = enough;
    forward = (lit≤ tt, (lit≤ tt, tt));
    gate = (both-listed w).0;
    first = r₁;
    then = r₂ ∷ [];
    earliest = refl;
    earliest-named = name_of 1000 relayed-frame old-high (relayed-brings 1000);
    of-cutting = of-relayed;
    cover = rw relayed-came.1 (halves-cover old-key last-month 7 (carried_at 0 40) refl (lit< tt) (lit≤ tt) (old-high ∷ old-low ∷ []) (inr (inl refl)) (inl refl));
    not-before = λ c. low-missing old-key last-month 7 (carried_at 0 40) refl (lit< tt) (lit≤ tt) (old-high ∷ []) (λ p i. only p old-high i) (rw relayed-came.0 at c);
    soon = lit< tt;
  }

  relayed-reply : (step (σ₁ w m) (part 1012 old-low)).reply ≡ out last-month
  unfolding run AllKept
  relayed-reply =
      let v = as-calls gs m old-key last-month old-cutting [] (r₁ ∷ []) r₂ relayed-supposed (all-answered w m).3 in
      let p : part 1012 v.0 ≡ part 1012 old-low = sym v.1 ∙ relayed₂ in
      let k : (step (next (σ₀ w m) (meant r₁)) (part 1012 v.0)).reply ≡ out last-month = v.2.exactly in
      rw (relayed₁, p) at k

  pub relayed-ran : Ran (σ₀ w m) (r₁ ∷ r₂ ∷ [])
  unfolding Ran next
  relayed-ran = (
    meets (σ₀ w m) 1000 relayed-frame old-high good₀ (relayed-brings 1000) (all-answered w m).0,
    (meets (σ₁ w m) 1012 old-first old-low good₁ (first-brings 1012).0 (ap answered relayed-reply), tt),
  )

  -- the two make the block
  pub relayed-block : Concluded old-key last-month (r₁ ∷ []) r₂
  unfolding end_of
  relayed-block = demand-3 gs m old-key last-month old-cutting [] (r₁ ∷ []) r₂ relayed-supposed relayed-ran (all-answered w m).3
