-- All that is outside of the program.

-- The files, the link, the clock, the disk and the sink, as they are at one moment. What each of them means is said by
-- its own trait.
pub record World (S U V T W : Type 0) : Type 0 where
  pub files : S
  pub link : U
  pub clock : V
  pub disk : T
  pub sink : W

abbrev pub world : {S U V T W : Type 0} → S → U → V → T → W → World S U V T W
world files link clock disk sink =
    record { files = files; link = link; clock = clock; disk = disk; sink = sink }
