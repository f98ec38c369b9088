mod EndLemmas
mod Kept
mod ReportLemmas
mod RunLemmas
mod StayLemmas
mod TraceLemmas
