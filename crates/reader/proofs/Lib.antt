mod Holding
mod Heading
mod Listing
mod Answering
